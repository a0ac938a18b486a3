-- A LEB that was seen.
use Rattle.std.proofs.Common.{◌≡◌, ℕ, false, List, [], ◌∷◌, ◌++◌, Option, refl, ap, sym, ◌∙◌, subst}
use Rattle.ubifs_base.specs.NodeLaws.{IsBytes}
use Rattle.ubifs_base.specs.declared.raw_geometry.RawGeometry.{RawGeometry}
use Rattle.media_sys.specs.declared.ref_node.RefNode.{RefNode}
use Rattle.leb_scan.specs.Text.{nodes_of}
use Rattle.leb_scan.specs.declared.found.Found.{Found}
use Rattle.leb_scan.specs.declared.item.Item.{Item}
use Rattle.bud_log.specs.LogText.{Refer, begins_with, is_later, start_of}
use Rattle.bud_log.specs.References.{text_begins}
use Rattle.bud_log.specs.RingRuns.{OneLebText}
use Rattle.bud_log.specs.Seen.{HasBeginning, IsSeen}
use Rattle.bud_log.specs.Writing.{IsOlder}
use Rattle.bud_log.specs.declared.seen.Seen.{Seen}
use Rattle.image_check.specs.WrongValues.{IsFirstOf, sooner_of}
use Rattle.journal_check.specs.LogChecks.{AreTaken, IsAddedTo, IsMisnamedAmong, torn_behind}
use Rattle.image_check.specs.declared.wrong_value.WrongValue.{WrongValue}
use Rattle.journal_check.specs.declared.read_lebs.ReadLebs.{ReadLebs}
use Rattle.journal_check.proofs.OneText.{text_seen}

-- it was added to what was read
pub added : OneLebText → (geo : RawGeometry) (leb : List ℕ) (lnum : ℕ) (seen : Seen) (old new : ReadLebs) (references : List RefNode) (misnamed torn : Option WrongValue) → IsBytes leb → IsSeen leb seen → AreTaken geo leb lnum old.references.items references misnamed
    → new.lnums.items ≡ old.lnums.items ++ lnum ∷ [] → new.references.items ≡ references → new.misnamed ≡ sooner_of old.misnamed misnamed → torn ≡ torn_behind old.tail lnum leb (start_of seen.begins) → new.torn ≡ sooner_of old.torn torn
    → new.last ≡ lnum → new.tail ≡ seen.tail → new.alone ≡ seen.alone → IsAddedTo geo leb lnum seen old new
added one geo leb lnum seen old new references misnamed torn fits s t lnums refs misnamed_is torn_is new_torn last tail alone =
    let same = one leb 0 t.end seen.offs t.items s.items t.tail seen.tail fits t.is_text s.is_text in
    let P : List Item → Type 0 = λ items. Refer leb (nodes_of items) t.references in
    let Q : List Item → Type 0 = λ items. IsFirstOf (IsMisnamedAmong geo leb lnum (nodes_of items)) misnamed in
    record {
      text = record { nodes = nodes_of s.items; references = t.references; ends = record { lnum = lnum; offs = seen.offs; tail = seen.tail } };
      is_text = record { items = s.items; is_text = s.is_text; here = refl; nodes = refl; refer = subst P same.0 t.refer };
      begins = s.begins;
      lnums = lnums;
      references = refs ∙ t.are;
      misnamed = misnamed;
      is_misnamed = subst Q same.0 t.is_first;
      misnamed_is = misnamed_is;
      torn_is = new_torn ∙ ap (sooner_of old.torn) (torn_is ∙ ap (λ (b : Option Found). torn_behind old.tail lnum leb (start_of b)) s.begins);
      last_is = last;
      tail_is = tail;
      alone_is = alone ∙ s.alone;
    }

-- it doesn't begin with a greater number
pub older_of : (leb : List ℕ) (lnum number : ℕ) (seen : Seen) → IsSeen leb seen → is_later number seen.begins ≡ false → IsOlder number lnum leb
older_of leb lnum number seen s not =
    let text = text_seen leb lnum seen s in
    (text.0, text.1, ap (λ (nodes : List Found). is_later number (begins_with nodes)) text.2 ∙ ap (is_later number) (sym s.begins) ∙ not)

-- the node with which it begins
pub beginning_of : (leb : List ℕ) (seen : Seen) → IsSeen leb seen → HasBeginning leb seen.begins
beginning_of leb seen s =
    let text = text_seen leb 0 seen s in
    let P : Option Found → Type 0 = λ b. HasBeginning leb b in
    subst P (ap begins_with text.2 ∙ sym s.begins) (text_begins leb 0 text.0 text.1)
