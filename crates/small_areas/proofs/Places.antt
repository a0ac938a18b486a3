-- A LEB has at most one place for a copy: where its text ends.
use Rattle.std.proofs.Common.{◌≡◌, ℕ, List}
use Rattle.ubifs_base.specs.NodeLaws.{IsBytes}
use Rattle.leb_scan.specs.Text.{IsText}
use Rattle.leb_scan.specs.declared.item.Item.{Item}
use Rattle.leb_scan.specs.declared.tail.Tail.{Tail}
use Rattle.leb_scan.specs.declared.tail.Tail.TheVariants.{Clean}
use Rattle.small_areas.specs.Copies.{IsPlace}
use Rattle.small_areas.specs.MasterLaws.{OneText}

pub place_ends : OneText → (leb : List ℕ) (room place end : ℕ) (tail : Tail) → IsBytes leb → ((items : List Item) × IsText leb 0 items end tail) → IsPlace leb room place → (place ≡ end) × (Clean ≡ tail)
place_ends one leb room place end tail fits text h =
    let same = one leb 0 place end h.items text.0 Clean tail fits h.is_text text.1 in
    (same.1, same.2)
