use Rattle.std.proofs.Common.{◌≡◌, ◌↔◌, refl, sym, ◌∙◌, Result, Ok, Err, IfOk}
use Rattle.ubifs_base.specs.Frame.{HasHead}
use Rattle.ubifs_base.specs.FrameLaws.{unframed-short, unframed-magic, unframed-len, unframed-crc}
use Rattle.ubifs_base.specs.NodeLaws.{unframed-ok}
use Rattle.ubifs_base.specs.declared.header.Head.{Head}
use Rattle.ubifs_base.specs.declared.header.FrameFault.{FrameFault}
use Rattle.ubifs_base.proofs.header.unframe.Goals as goal

-- the same of what was returned
along : (P : Type 0) (r u : Result Head FrameFault) (f : FrameFault) → r ≡ u → P ↔ (u ≡ Err f) → P ↔ (r ≡ Err f)
along P r u f same law = (λ h. same ∙ law.0 h, λ h. law.1 (sym same ∙ h))

if_ok : (r : Result Head FrameFault) (P : Head → Type 0) → ((h : Head) → r ≡ Ok h → P h) → IfOk r P
if_ok (Err f) P h = tt
if_ok (Ok x) P h = h x refl

pub returns-clause-head : goal.returns-clause-head
returns-clause-head c = if_ok c.read_header.result (HasHead c.args.bytes.now) (λ h is. unframed-ok c.args.bytes.now h (sym c.read_header.ensures ∙ is))

pub returns-clause-short : goal.returns-clause-short
returns-clause-short c = along _ _ _ _ c.read_header.ensures (unframed-short c.args.bytes.now)

pub returns-clause-magic : goal.returns-clause-magic
returns-clause-magic c = along _ _ _ _ c.read_header.ensures (unframed-magic c.args.bytes.now)

pub returns-clause-len : goal.returns-clause-len
returns-clause-len c = along _ _ _ _ c.read_header.ensures (unframed-len c.args.bytes.now)

pub returns-clause-crc : goal.returns-clause-crc
returns-clause-crc c = along _ _ _ _ c.read_header.ensures (unframed-crc c.args.bytes.now)
