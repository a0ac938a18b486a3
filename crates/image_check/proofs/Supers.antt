-- The superblock of a LEB, and what is wrong with it.
use Rattle.std.proofs.Common.{◌≡◌, ℕ, ◌≤◌, List, Result, Ok, Err, IfOk, length, take, sym, subst, inl}
use Rattle.std.specs.Prelude.{IfErr}
use Rattle.media_sys.specs.SystemNode.{IsSuper}
use Rattle.media_sys.specs.declared.super_node.Super.{Super}
use Rattle.ubifs_base.specs.RawOf.{raw_of}
use Rattle.ubifs_base.specs.declared.geometry.Geometry.{Geometry}
use Rattle.ubifs_base.specs.declared.raw_geometry.RawGeometry.{RawGeometry}
use Rattle.sound_image.specs.Breaches.{IsFirstBreach, IsWrongField, SuperNeeds}
use Rattle.sound_image.specs.Superblock.{BeginsWithSuper, HasSuperblock}
use Rattle.sound_image.specs.Wrong.{needs}
use Rattle.sound_image.specs.declared.breach.Breach.{Breach}
use Rattle.sound_image.specs.declared.breach.Breach.TheVariants.{Super as InSuper, Feature as NeedsOne, NoMaster, Damaged}
use Rattle.image_check.specs.Firsts.{IsWrongSuper}

-- no superblock node in front
pub no_super : (leb front : List ℕ) → front ≡ take 4096 leb → ((sqnum group : ℕ) (node : Super) → IsSuper front sqnum group node → ⊥) → (node : Super) → BeginsWithSuper leb node → ⊥
no_super leb front e none node begins =
    let P : List ℕ → Type 0 = λ b. IsSuper b begins.sqnum begins.group node in
    none begins.sqnum begins.group node (subst P (sym e) begins.is)

-- a superblock node in front
pub begins_of : (leb front : List ℕ) (node : Super) → 4096 ≤ length leb → front ≡ take 4096 leb → (sqnum : ℕ) × (group : ℕ) × IsSuper front sqnum group node → BeginsWithSuper leb node
begins_of leb front node long e found =
    let P : List ℕ → Type 0 = λ b. IsSuper b found.0 found.1 node in
    record { room = long; sqnum = found.0; group = found.1; is = subst P e found.2 }

super_moved : (contents : ℕ → List ℕ) (leb : List ℕ) (geo : RawGeometry) → leb ≡ contents 0 → HasSuperblock (λ k. leb) geo → HasSuperblock contents geo
super_moved contents leb geo e h =
    let P : List ℕ → Type 0 = λ b. BeginsWithSuper b h.node in
    record { node = h.node; begins = subst P e h.begins; known = h.known; geometry = h.geometry; in_range = h.in_range }

breach_moved : (contents : ℕ → List ℕ) (leb : List ℕ) (breach : Breach) → leb ≡ contents 0 → IsWrongSuper leb breach → IsFirstBreach contents breach
breach_moved contents leb (InSuper field) e h = let P : List ℕ → Type 0 = λ b. IsWrongField b field in subst P e h
breach_moved contents leb (NeedsOne what lnum offs) e h = let P : List ℕ → Type 0 = λ b. SuperNeeds b what (record { lnum = lnum; offs = offs; misfit = needs what }) in inl (subst P e h)
breach_moved contents leb NoMaster e h = absurd h
breach_moved contents leb (Damaged rule lnum offs wanted found) e h = absurd h

-- what was told of the bytes of LEB 0
pub met_at : (contents : ℕ → List ℕ) (leb : List ℕ) (r : Result Geometry Breach) → leb ≡ contents 0 → IfOk r (λ geometry. HasSuperblock (λ k. leb) (raw_of geometry)) → IfOk r (λ geometry. HasSuperblock contents (raw_of geometry))
met_at contents leb (Ok geometry) e h = super_moved contents leb (raw_of geometry) e h
met_at contents leb (Err breach) e h = tt

pub broken_at : (contents : ℕ → List ℕ) (leb : List ℕ) (r : Result Geometry Breach) → leb ≡ contents 0 → IfErr r (IsWrongSuper leb) → IfErr r (IsFirstBreach contents)
broken_at contents leb (Ok geometry) e h = tt
broken_at contents leb (Err breach) e h = breach_moved contents leb breach e h
