-- Which type and which body a node's bytes have.
use Rattle.std.specs.Prelude.{ℕ, ◌==◌, not, nat_lt, if◌then◌else◌, List, length, drop, Option, Some, None, Result, Ok, Err}
use Rattle.std.specs.Prelude.{option_and_then}
use Rattle.ubifs_base.specs.Frame.{unframed}
use Rattle.ubifs_base.specs.declared.header.Head.{Head}
use Rattle.ubifs_base.specs.declared.header.FrameFault.{FrameFault}

-- the same, by what stands in the header
abbrev pub opened_with : List ℕ → Result Head FrameFault → Option (ℕ × List ℕ)
opened_with bytes (Ok head) = if not (head.len == length bytes) then None else if nat_lt 2 head.group then None else Some (head.kind, drop 24 bytes)
opened_with bytes (Err fault) = None

-- the type and the body, where the bytes are a node, all of them
unfoldable pub opened : List ℕ → Option (ℕ × List ℕ)
opened bytes = opened_with bytes (unframed bytes)

-- the node that the bytes are, by a reader of types and bodies
abbrev pub decoded : {X : Type 0} → (ℕ → List ℕ → Option X) → List ℕ → Option X
decoded read bytes = option_and_then (λ node. read node.0 node.1) (opened bytes)
