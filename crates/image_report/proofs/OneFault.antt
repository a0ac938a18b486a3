-- Of unsound bytes one line is told.
use Rattle.std.proofs.Common.{◌≡◌, ◌≢◌, ◌⊎◌, ℕ, zero, suc, ◌%◌, ◌<◌, ◌≤◌, List, [], ◌∷◌, length, refl, ap, sym, subst, ◌∙◌, inl, inr, arith}
use Rattle.std.proofs.lemmas.List.Elements.{All-nil}
use Rattle.std.specs.Prelude.{codes}
use Rattle.std.specs.Fmt.{decimal}
use Rattle.ubifs_base.specs.NodeLaws.{IsBytes}
use Rattle.ubifs_base.specs.declared.node_type.NodeType.TheVariants as types
use Rattle.ubifs_base.specs.declared.raw_geometry.RawGeometry.{RawGeometry}
use Rattle.media_sys.specs.declared.feature.Feature.{Feature}
use Rattle.media_sys.specs.declared.super_field.SuperField.{SuperField}
use Rattle.leb_scan.specs.declared.found.Found.{Found}
use Rattle.leb_scan.specs.declared.tail.Tail.TheVariants.{Clean}
use Rattle.small_areas.specs.Masters.{HasNoMaster}
use Rattle.text_lines.specs.Lines.{line_of}
use Rattle.sound_image.specs.Breaches.{IsFirstBreach}
use Rattle.sound_image.specs.Wrong.{needs}
use Rattle.sound_image.specs.declared.breach.Breach.{Breach}
use Rattle.sound_image.specs.declared.breach.Breach.TheVariants.{Super as InSuper, Feature as NeedsOne, NoMaster}
use Rattle.image_dump.specs.Opening.{HasGeometry, IsFaulty, contents_of}
use Rattle.image_dump.specs.declared.fault.ImageFault.{ImageFault}
use Rattle.image_dump.specs.declared.fault.ImageFault.TheVariants as fault
use Rattle.image_report.specs.Lines.{breach_line, breach_words, fault_words}
use Rattle.image_report.specs.Told.{IsUnsound}
use Rattle.image_report.proofs.OneTold.{NeverFaulty, OneShape, contents_bytes}

-- what sound_image says: contents have one first breach at most
abbrev pub OneBreach : Type 0
OneBreach = (contents : ℕ → List ℕ) (a b : Breach) → ((k : ℕ) → IsBytes (contents k)) → IsFirstBreach contents a → IsFirstBreach contents b → a ≡ b

-- contents of an image in LEB 0, and of nothing else
abbrev alone : List ℕ → ℕ → List ℕ
alone image zero = image
alone image (suc k) = []

alone_bytes : (image : List ℕ) → IsBytes image → (k : ℕ) → IsBytes (alone image k)
alone_bytes image fits zero = fits
alone_bytes image fits (suc k) = λ i. omega arith

no_master : HasNoMaster []
no_master = record { items = []; end = 0; tail = Clean; is_text = record { stand = refl; ends = refl }; none = All-nil (λ (node : Found). node.kind ≢ types.Master) }

-- they have no master first, if their superblock meets its rule
masterless : (image : List ℕ) (geo : RawGeometry) → HasGeometry image geo → IsFirstBreach (alone image) NoMaster
masterless image geo has = (geo, record { node = has.node; begins = has.begins; known = has.known; geometry = has.geometry; in_range = has.in_range }, no_master, no_master)

-- the words for a length
abbrev length_words : List ℕ → List ℕ → List (List ℕ)
length_words word image = word ∷ decimal (length image) ∷ []

-- What is told of a faulty image: that it is short, that it isn't whole LEBs, that it is long, or what is wrong with its superblock.
abbrev Short : List ℕ → List (List ℕ) → Type 0
Short image words = (length image < 4096) × (words ≡ length_words (codes "short") image)

abbrev Part : List ℕ → List (List ℕ) → Type 0
Part image words = (geo : RawGeometry) × HasGeometry image geo × (length image % geo.leb_size ≢ 0) × (words ≡ length_words (codes "short") image)

abbrev Long : List ℕ → List (List ℕ) → Type 0
Long image words = (geo : RawGeometry) × HasGeometry image geo × (length image % geo.leb_size ≡ 0) × (words ≡ length_words (codes "long") image)

abbrev Wrong : List ℕ → List (List ℕ) → Type 0
Wrong image words = (breach : Breach) × (4096 ≤ length image) × IsFirstBreach (alone image) breach × (breach ≢ NoMaster) × (words ≡ breach_words breach)

abbrev Told : List ℕ → List (List ℕ) → Type 0
Told image words = Short image words ⊎ (Part image words ⊎ (Long image words ⊎ Wrong image words))

no_field : (field : SuperField) → InSuper field ≢ NoMaster
no_field field h = absurd cc

no_need : (what : Feature) (lnum offs : ℕ) → NeedsOne what lnum offs ≢ NoMaster
no_need what lnum offs h = absurd cc

told : (image : List ℕ) (why : ImageFault) → IsFaulty image why → why ≢ fault.Memory → Told image (fault_words why)
told image fault.Memory is other = absurd (other refl)
told image (fault.Short len) (is, inl few) other = inl (few, ap (λ n. codes "short" ∷ decimal n ∷ []) is)
told image (fault.Short len) (is, inr (geo, has, part)) other = inr (inl (geo, has, part, ap (λ n. codes "short" ∷ decimal n ∷ []) is))
told image (fault.Super field) (long, wrong) other = inr (inr (inr (InSuper field, long, wrong, no_field field, refl)))
told image (fault.Feature what lnum offs) (node, begins, first, one, two) other =
    let at : record { lnum = lnum; offs = offs; misfit = needs what } ≡ record { lnum = 0; offs = 0; misfit = needs what } = cc in
    inr (inr (inr (NeedsOne what lnum offs, begins.room, inl (node, begins, first, at), no_need what lnum offs, refl)))
told image (fault.Long len most) (geo, has, long, is, _) other = inr (inr (inl (geo, has, long.whole, ap (λ n. codes "long" ∷ decimal n ∷ []) is)))

-- an image with a geometry isn't shorter than its superblock, and nothing is wrong with that
not_short : (image : List ℕ) (geo : RawGeometry) → HasGeometry image geo → length image < 4096 → ⊥
not_short image geo has few = let room = has.begins.room in omega (arith, few, room)

not_wrong : OneBreach → (image : List ℕ) (geo : RawGeometry) (words : List (List ℕ)) → IsBytes image → HasGeometry image geo → Wrong image words → ⊥
not_wrong one image geo words fits has (breach, _, first, other, _) = other (one (alone image) breach NoMaster (alone_bytes image fits) first (masterless image geo has))

not_both : OneShape → (image : List ℕ) (a b : List (List ℕ)) → IsBytes image → Part image a → Long image b → ⊥
not_both shape image a b fits (g, has, part, _) (h, also, whole, _) =
    let P : RawGeometry → Type 0 = λ x. length image % x.leb_size ≡ 0 in
    part (subst P (shape image h g fits also has) whole)

-- so one thing is told of it
same_words : OneShape → OneBreach → (image : List ℕ) (a b : List (List ℕ)) → IsBytes image → Told image a → Told image b → a ≡ b
same_words shape one image a b fits (inl x) (inl y) = x.1 ∙ sym y.1
same_words shape one image a b fits (inl x) (inr (inl y)) = x.1 ∙ sym y.3
same_words shape one image a b fits (inl x) (inr (inr (inl y))) = absurd (not_short image y.0 y.1 x.0)
same_words shape one image a b fits (inl (few, _)) (inr (inr (inr (_, long, _, _, _)))) = absurd (omega (arith, few, long))
same_words shape one image a b fits (inr (inl x)) (inl y) = x.3 ∙ sym y.1
same_words shape one image a b fits (inr (inl x)) (inr (inl y)) = x.3 ∙ sym y.3
same_words shape one image a b fits (inr (inl x)) (inr (inr (inl y))) = absurd (not_both shape image a b fits x y)
same_words shape one image a b fits (inr (inl x)) (inr (inr (inr y))) = absurd (not_wrong one image x.0 b fits x.1 y)
same_words shape one image a b fits (inr (inr (inl x))) (inl y) = absurd (not_short image x.0 x.1 y.0)
same_words shape one image a b fits (inr (inr (inl x))) (inr (inl y)) = absurd (not_both shape image b a fits y x)
same_words shape one image a b fits (inr (inr (inl x))) (inr (inr (inl y))) = x.3 ∙ sym y.3
same_words shape one image a b fits (inr (inr (inl x))) (inr (inr (inr y))) = absurd (not_wrong one image x.0 b fits x.1 y)
same_words shape one image a b fits (inr (inr (inr (_, long, _, _, _)))) (inl (few, _)) = absurd (omega (arith, few, long))
same_words shape one image a b fits (inr (inr (inr x))) (inr (inl y)) = absurd (not_wrong one image y.0 a fits y.1 x)
same_words shape one image a b fits (inr (inr (inr x))) (inr (inr (inl y))) = absurd (not_wrong one image y.0 a fits y.1 x)
same_words shape one image a b fits (inr (inr (inr x))) (inr (inr (inr y))) =
    x.4 ∙ ap breach_words (one (alone image) x.0 y.0 (alone_bytes image fits) x.2 y.2) ∙ sym y.4

-- and of unsound bytes one line
pub one_unsound : NeverFaulty → OneShape → OneBreach → (bytes a b : List ℕ) → IsBytes bytes → IsUnsound bytes a → IsUnsound bytes b → a ≡ b
one_unsound faulty shape one bytes a b fits (inl (v, is, other, line)) (inl (w, also, another, words)) =
    line ∙ ap (λ w. line_of (codes "image" ∷ w)) (same_words shape one bytes (fault_words v) (fault_words w) fits (told bytes v is other) (told bytes w also another)) ∙ sym words
one_unsound faulty shape one bytes a b fits (inl (v, is, other, _)) (inr (geo, _, volume, _, _)) = absurd (other (faulty bytes geo v fits volume is))
one_unsound faulty shape one bytes a b fits (inr (geo, _, volume, _, _)) (inl (v, is, other, _)) = absurd (other (faulty bytes geo v fits volume is))
one_unsound faulty shape one bytes a b fits (inr (g, x, volume, first, line)) (inr (h, y, also, second, words)) =
    let P : RawGeometry → Type 0 = λ geo. IsFirstBreach (contents_of geo bytes) y in
    let there = subst P (shape bytes h g fits also.geometry volume.geometry) second in
    line ∙ ap breach_line (one (contents_of g bytes) x y (contents_bytes g bytes fits) first there) ∙ sym words
