use Rattle.std.proofs.Common.{inl, inr, refl}
use Rattle.std.proofs.lemmas.Grind
use native.Mathlib.Omega
use Rattle.ubi_volume.specs.VolumeLaws.{Keeps-none}
use Rattle.lpt_area.proofs.rows.nnode_at.Goals as goal

pub returns-then-place-eq0-clause-found : goal.returns-then-place-eq0-clause-found
returns-then-place-eq0-clause-found g c = grind (Omega.arith, Grind.common_steps) steps 2000000

pub returns-then-place-eq0-clause-places : goal.returns-then-place-eq0-clause-places
returns-then-place-eq0-clause-places g c = grind (Omega.arith, Grind.common_steps) steps 2000000

pub returns-then-place-eq0-clause-none : goal.returns-then-place-eq0-clause-none
returns-then-place-eq0-clause-none g c = grind (Omega.arith, Grind.common_steps) steps 2000000

pub returns-then-place-eq0-clause-keeps : goal.returns-then-place-eq0-clause-keeps
returns-then-place-eq0-clause-keeps g c = Keeps-none _

pub returns-then-place-eq0-clause-sure : goal.returns-then-place-eq0-clause-sure
returns-then-place-eq0-clause-sure g c = λ s. inr (s, (refl, refl))

pub returns-then-place-node-clause-found : goal.returns-then-place-node-clause-found
returns-then-place-node-clause-found g c = grind (Omega.arith, Grind.common_steps) steps 2000000

pub returns-then-place-node-clause-places : goal.returns-then-place-node-clause-places
returns-then-place-node-clause-places g c = grind (Omega.arith, Grind.common_steps) steps 2000000

pub returns-then-place-node-clause-keeps : goal.returns-then-place-node-clause-keeps
returns-then-place-node-clause-keeps g c = Keeps-none _

pub returns-then-place-node-clause-sure : goal.returns-then-place-node-clause-sure
returns-then-place-node-clause-sure g c = λ s. inr (s, (refl, refl))

pub read-requires-clause-lnum : goal.read-requires-clause-lnum
read-requires-clause-lnum g c = grind (Omega.arith, Grind.common_steps) steps 2000000

pub read-requires-clause-range : goal.read-requires-clause-range
read-requires-clause-range g c = grind (Omega.arith, Grind.common_steps) steps 2000000

pub returns-in_err-read-clause-found : goal.returns-in_err-read-clause-found
returns-in_err-read-clause-found g c = grind (Omega.arith, Grind.common_steps) steps 2000000

pub returns-in_err-read-clause-places : goal.returns-in_err-read-clause-places
returns-in_err-read-clause-places g c = grind (Omega.arith, Grind.common_steps) steps 2000000

pub returns-in_err-read-clause-none : goal.returns-in_err-read-clause-none
returns-in_err-read-clause-none g c = grind (Omega.arith, Grind.common_steps) steps 2000000

pub returns-in_default-clause-found : goal.returns-in_default-clause-found
returns-in_default-clause-found g c = grind (Omega.arith, Grind.common_steps) steps 2000000

pub returns-in_default-clause-places : goal.returns-in_default-clause-places
returns-in_default-clause-places g c = grind (Omega.arith, Grind.common_steps) steps 2000000

pub returns-in_default-clause-none : goal.returns-in_default-clause-none
returns-in_default-clause-none g c = grind (Omega.arith, Grind.common_steps) steps 2000000

pub returns-clause-places : goal.returns-clause-places
returns-clause-places g c = grind (Omega.arith, Grind.common_steps) steps 2000000

pub returns-clause-none : goal.returns-clause-none
returns-clause-none g c = grind (Omega.arith, Grind.common_steps) steps 2000000

pub returns-in_default-clause-cause : goal.returns-in_default-clause-cause
returns-in_default-clause-cause g c = c.in_ok-read.ensures.cause

pub returns-in_default-clause-sure : goal.returns-in_default-clause-sure
returns-in_default-clause-sure g c = λ s. elim (c.read.ensures.sure s) [ inl gone ↦ inl gone | inr fine ↦ inr (fine.0, (fine.1.0, refl)) ]

pub returns-clause-cause : goal.returns-clause-cause
returns-clause-cause g c = c.in_ok-read.ensures.cause

pub returns-clause-sure : goal.returns-clause-sure
returns-clause-sure g c = λ s. elim (c.read.ensures.sure s) [ inl gone ↦ inl gone | inr fine ↦ inr (fine.0, (fine.1.0, refl)) ]
