-- Both copies of a master: what holds after them, and what a cut leaves at any moment of them.
use Rattle.std.proofs.Common.{◌≡◌, ◌≢◌, ℕ, ◌+◌, ◌<◌, List, inl, inr, refl, sym, ◌∙◌, subst, arith}
use Rattle.ubifs_base.specs.NodeLaws.{IsBytes}
use Rattle.ubi_volume.specs.Volume.{VolumeState, UnderWay, WorksOn}
use Rattle.ubi_volume.specs.Frame.{Works}
use Rattle.ubi_volume.specs.FrameLaws.{Works-more, Works-on, Works-then}
use Rattle.media_sys.specs.declared.master.Master.{Master}
use Rattle.small_areas.specs.Copies.{copy_of, master_node, IsNodeOf, IsRoom, IsCopied, AreCopied, CopyUnderWay, HasWholeCopy, IsMasterLeb, MasterUnderWay}
use Rattle.small_areas.proofs.CopyRuns.{copied_then, copied_from, copying_from, first_moment, second_moment, new_second, open_after, settled}
use Rattle.small_areas.proofs.LaidCopy.{standing_at, HasCopy}
use Rattle.small_areas.specs.MasterLaws.{OneNode, OneText}
use Rattle.small_areas.proofs.TornCopy.{copied}

-- what a cut may leave where no unmapping is undone is among all that it may leave
abbrev pub HasMapped : VolumeState → Type 0
HasMapped state = (k : ℕ) (bytes : List ℕ) → state.left_mapped k bytes → state.left_now k bytes

-- a copy of a master, as a call that wrote its node did it
pub record IsCall (a b : VolumeState) (lnum room sqnum : ℕ) (m : Master) (node : List ℕ) : Type 0 where
  pub spelling : node ≡ master_node sqnum m
  pub is_node : IsNodeOf node sqnum m
  pub works : WorksOn a b lnum (CopyUnderWay a lnum room (copy_of room node))

-- the same of the node as it is spelled
abbrev pub IsSpelled : VolumeState → VolumeState → ℕ → ℕ → ℕ → Master → Type 0
IsSpelled a b lnum room sqnum m = IsCall a b lnum room sqnum m (master_node sqnum m)

pub spelled : (a b : VolumeState) (lnum room sqnum : ℕ) (m : Master) (node : List ℕ) → IsCall a b lnum room sqnum m node → IsSpelled a b lnum room sqnum m
spelled a b lnum room sqnum m node h = let P : List ℕ → Type 0 = λ n. IsCall a b lnum room sqnum m n in subst P h.spelling h

pub copied_spelled : (a b : VolumeState) (lnum room sqnum : ℕ) (m : Master) (node : List ℕ) → node ≡ master_node sqnum m → IsCopied a b lnum room (copy_of room node) → IsCopied a b lnum room (copy_of room (master_node sqnum m))
copied_spelled a b lnum room sqnum m node e h = let P : List ℕ → Type 0 = λ n. IsCopied a b lnum room (copy_of room n) in subst P e h

-- a copy that was written is whole
whole_copy : (a b : VolumeState) (lnum room : ℕ) (copy left : List ℕ) → HasMapped a → IsCopied a b lnum room copy → b.left_now lnum left → HasWholeCopy a lnum room copy left
whole_copy a b lnum room copy left sub (inl (place, is_place, done)) now = let kept = done.left left now in inl (place, is_place, kept.0, sub lnum kept.0 kept.1, kept.1, kept.2)
whole_copy a b lnum room copy left sub (inr (none, done)) now = inr (none, done.left left now)

-- the first copy alone, whatever it answered
pub works_one : OneText → OneNode → (a b : VolumeState) (node : List ℕ) (room number : ℕ) (m : Master) → IsRoom room → HasMapped a → IsCall a b 1 room (number + 1) m node → Works a b IsMasterLeb (MasterUnderWay a room number m)
works_one one one_node a b node room number m is_room sub call =
    let n1 : List ℕ = master_node (number + 1) m in
    let n2 : List ℕ = master_node (number + 2) m in
    let h = spelled a b 1 room (number + 1) m node call in
    let D : List ℕ → Type 0 = CopyUnderWay a 1 room (copy_of room n1) in
    Works-more a b (λ k. k ≡ 1) IsMasterLeb (UnderWay a 1 D) (MasterUnderWay a room number m) (λ k is. inl is) (λ x w. record {
      elsewhere = λ k apart. w.0 k (λ is. apart (inl is));
      first = w.1;
      second = inl (inl (w.0 2 (omega arith)));
      in_order = inl (w.0 2 (omega arith));
      old_or_new = λ old start. first_moment one one_node a n1 n2 room number m old is_room h.is_node sub start x w;
    }) (Works-on a b 1 D h.works)

-- both copies, whatever the second answered
pub works_two : OneText → OneNode → (a b e : VolumeState) (node other : List ℕ) (room number : ℕ) (m : Master) → IsRoom room → HasMapped a → HasMapped b → b.leb_size ≡ a.leb_size → IsCall a b 1 room (number + 1) m node → IsCopied a b 1 room (copy_of room node)
    → IsCall b e 2 room (number + 2) m other → Works a e IsMasterLeb (MasterUnderWay a room number m)
works_two one one_node a b e node other room number m is_room sub_a sub_b size first done second =
    let n1 : List ℕ = master_node (number + 1) m in
    let n2 : List ℕ = master_node (number + 2) m in
    let h = spelled a b 1 room (number + 1) m node first in
    let k = spelled b e 2 room (number + 2) m other second in
    let D : List ℕ → Type 0 = CopyUnderWay a 1 room (copy_of room n1) in
    let E : List ℕ → Type 0 = CopyUnderWay b 2 room (copy_of room n2) in
    Works-then a b e IsMasterLeb (λ l. l ≡ 2) IsMasterLeb (MasterUnderWay a room number m) (UnderWay b 2 E) (MasterUnderWay a room number m) (λ l is. is) (λ l is. inr is) (λ x w. w) (λ x w. record {
      elsewhere = λ l apart. h.works.others_left l (x l) (λ is. apart (inl is)) (w.0 l (λ is. apart (inr is)));
      first = h.works.left (x 1) (w.0 1 (omega arith));
      second = copying_from a b 2 1 room (copy_of room n2) D (omega arith) size h.works (x 2) w.1;
      in_order = inr (whole_copy a b 1 room (copy_of room n1) (x 1) sub_a (copied_spelled a b 1 room (number + 1) m node first.spelling done) (w.0 1 (omega arith)));
      old_or_new = λ old start. second_moment one one_node a b n1 n2 room number m old D is_room h.is_node k.is_node sub_a sub_b start h.works (copied_spelled a b 1 room (number + 1) m node first.spelling done) x w;
    }) (works_one one one_node a b node room number m is_room sub_a first) (Works-on b e 2 E k.works)

numbers_rise : (number : ℕ) → number + 1 < number + 2
numbers_rise number = omega arith

-- after both copies
pub both_copied : OneText → OneNode → (a b e : VolumeState) (node other : List ℕ) (room number : ℕ) (m : Master) → IsRoom room → HasMapped a → b.leb_size ≡ a.leb_size → IsCall a b 1 room (number + 1) m node → IsCopied a b 1 room (copy_of room node) → IsBytes (b.holds 1)
    → IsCall b e 2 room (number + 2) m other → IsCopied b e 2 room (copy_of room other) → IsBytes (e.holds 2) → AreCopied a e room number m
both_copied one one_node a b e node other room number m is_room sub size first done fits second more others =
    let less : number + 1 < number + 2 = numbers_rise number in
    let ne12 : 1 ≢ 2 = omega arith in
    let ne21 : 2 ≢ 1 = omega arith in
    let n1 : List ℕ = master_node (number + 1) m in
    let n2 : List ℕ = master_node (number + 2) m in
    let h = spelled a b 1 room (number + 1) m node first in
    let k = spelled b e 2 room (number + 2) m other second in
    let d1 = copied_spelled a b 1 room (number + 1) m node first.spelling done in
    let d2 = copied_spelled b e 2 room (number + 2) m other second.spelling more in
    let c1 = copied one_node a b n1 1 room (number + 1) m is_room h.is_node d1 in
    let c2 = copied one_node b e n2 2 room (number + 2) m is_room k.is_node d2 in
    let done_first : IsCopied a e 1 room (copy_of room n1) = copied_then a b e 1 2 room (copy_of room n1) (CopyUnderWay b 2 room (copy_of room n2)) ne12 k.works d1 in
    let done_second : IsCopied a e 2 room (copy_of room n2) = copied_from a b e 2 1 room (copy_of room n2) (CopyUnderWay a 1 room (copy_of room n1)) ne21 size h.works d2 in
    let still : b.holds 1 ≡ e.holds 1 = sym (k.works.others 1 ne12) in
    let P : List ℕ → Type 0 = λ leb. HasCopy leb 1 c1.0 (c1.0 + room) (number + 1) m in
    let Q : List ℕ → Type 0 = λ leb. IsBytes leb in
    let there : HasCopy (e.holds 1) 1 c1.0 (c1.0 + room) (number + 1) m = subst P still c1.1 in
    record {
      first = done_first;
      second = done_second;
      latest = standing_at 2 c2.0 (number + 2) m;
      is_latest = new_second (e.holds 1) (e.holds 2) (standing_at 1 c1.0 (number + 1) m) (standing_at 2 c2.0 (number + 2) m) there.read c2.1.read less;
      is_fresh = refl;
      is_newer = refl;
      open_first = open_after one e 1 room c1.0 (number + 1) m (subst Q still fits) there (k.works.others_written 1 ne12 ∙ c1.2);
      open_second = open_after one e 2 room c2.0 (number + 2) m others c2.1 c2.2;
      settled_first = λ only. settled a e 1 room (copy_of room n1) only (sub 1) done_first;
      settled_second = λ only. settled a e 2 room (copy_of room n2) only (sub 2) done_second;
    }
