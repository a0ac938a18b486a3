-- The lines in which it is told what is known of an image.
use Rattle.std.specs.Prelude.{ℕ, Bool, true, false, List, [], ◌∷◌, codes}
use Rattle.std.specs.Fmt.{decimal}
use Rattle.text_lines.specs.Lines.{line_of}
use Rattle.media_sys.specs.declared.feature.Feature.{Feature}
use Rattle.media_sys.specs.declared.feature.Feature.TheVariants as feature
use Rattle.media_sys.specs.declared.super_field.SuperField.{SuperField}
use Rattle.media_sys.specs.declared.super_field.SuperField.TheVariants as superblock
use Rattle.fs_model.specs.declared.space.Space.{Space}
use Rattle.sound_image.specs.Rules.{rule_number}
use Rattle.sound_image.specs.declared.breach.Breach.{Breach}
use Rattle.sound_image.specs.declared.breach.Breach.TheVariants.{Super as InSuper, Feature as NeedsOne, NoMaster, Damaged}
use Rattle.image_dump.specs.declared.fault.ImageFault.{ImageFault}
use Rattle.image_dump.specs.declared.fault.ImageFault.TheVariants as fault

-- the word for a field of a superblock
abbrev pub super_word : SuperField → List ℕ
super_word superblock.LebSize = codes "leb_size"
super_word superblock.MinIo = codes "min_io"
super_word superblock.LogLebs = codes "log_lebs"
super_word superblock.LptLebs = codes "lpt_lebs"
super_word superblock.OrphLebs = codes "orph_lebs"
super_word superblock.LebCnt = codes "leb_cnt"
super_word superblock.MaxLebCnt = codes "max_leb_cnt"
super_word superblock.Fanout = codes "fanout"
super_word superblock.LsaveCnt = codes "lsave_cnt"
super_word superblock.Node = codes "node"

-- the word for a feature
abbrev pub feature_word : Feature → List ℕ
feature_word feature.KeyHash = codes "key_hash"
feature_word feature.KeyFmt = codes "key_fmt"
feature_word feature.Version = codes "version"
feature_word feature.Heads = codes "heads"
feature_word feature.DoubleHash = codes "double_hash"
feature_word feature.Encryption = codes "encryption"
feature_word feature.Authentication = codes "authentication"
feature_word feature.Flags = codes "flags"
feature_word feature.BigModel = codes "big_model"
feature_word feature.Compressed = codes "compressed"
feature_word feature.Attributes = codes "attributes"

-- what is wrong with contents, in words: the rule's number, the place, and what is wanted and found there
abbrev pub breach_words : Breach → List (List ℕ)
breach_words (InSuper field) = codes "super" ∷ super_word field ∷ []
breach_words (NeedsOne what lnum offs) = codes "feature" ∷ feature_word what ∷ decimal lnum ∷ decimal offs ∷ []
breach_words NoMaster = codes "no" ∷ codes "master" ∷ []
breach_words (Damaged rule lnum offs wanted found) =
    codes "damaged" ∷ decimal (rule_number rule) ∷ decimal lnum ∷ decimal offs ∷ decimal wanted ∷ decimal found ∷ []

-- and with the bytes of an image
abbrev pub fault_words : ImageFault → List (List ℕ)
fault_words fault.Memory = []
fault_words (fault.Short len) = codes "short" ∷ decimal len ∷ []
fault_words (fault.Super field) = breach_words (InSuper field)
fault_words (fault.Feature what lnum offs) = breach_words (NeedsOne what lnum offs)
fault_words (fault.Long len most) = codes "long" ∷ decimal len ∷ []

-- the lines that tell it
abbrev pub breach_line : Breach → List ℕ
breach_line breach = line_of (codes "image" ∷ breach_words breach)

abbrev pub fault_line : ImageFault → List ℕ
fault_line why = line_of (codes "image" ∷ fault_words why)

-- the word for an image whose buds hold no node, or hold one
abbrev pub clean_word : Bool → List ℕ
clean_word true = codes "clean"
clean_word false = codes "unclean"

-- the line of a sound image: whether it is clean, and its space
abbrev pub sound_line : Bool → Space → List ℕ
sound_line clean space =
    line_of (codes "sound" ∷ clean_word clean ∷ codes "used" ∷ decimal space.used ∷ codes "empty" ∷ decimal space.empty
    ∷ codes "index" ∷ decimal space.index ∷ codes "weight" ∷ decimal space.weight ∷ [])
