use Rattle.std.proofs.Common.{◌≡◌, ◌<◌, ◌≤◌, ◌+◌, ◌*◌, ◌%◌, ℕ, false, List, length, ap, sym, ◌∙◌, subst, arith}
use Rattle.std.specs.Prelude.{◌≢◌, fold}
use Rattle.ubifs_base.specs.GeometryLaws.{min_io-mod}
use Rattle.ubifs_base.specs.RawOf.{raw_of}
use Rattle.media_sys.specs.SystemNode.{commit_start}
use Rattle.media_sys.specs.declared.commit_start.CommitStart.{CommitStart}
use Rattle.media_sys.specs.declared.ref_node.RefNode.{RefNode}
use Rattle.bud_log.specs.Buds.{named_also, buds_of}
use Rattle.bud_log.specs.KeepsOnLaws.{on_ok}
use Rattle.bud_log.specs.Log.{IsLogLeb, next_leb}
use Rattle.bud_log.specs.LogAt.{LogAt, padded_room_of, references_to, head_nodes, section_nodes}
use Rattle.bud_log.specs.LogText.{StartsCommit}
use Rattle.bud_log.specs.LogAnswers.{StartsWith}
use Rattle.bud_log.specs.LogCalls.{IsAdded, AddDuring}
use Rattle.bud_log.specs.Writing.{AreOthersOlder, IsLogReady}
use Rattle.bud_log.specs.declared.head_at.HeadAt.{HeadAt}
use Rattle.bud_log.proofs.Opened.{added_ready, begun_laid}
use Rattle.bud_log.proofs.ReadyAgain.{ready_section, starts_commit, starts_with}
use Rattle.bud_log.proofs.Spelled.{references_same, mod_through, fits_leb}
use Rattle.bud_log.proofs.log.Log.write_section.Goals as goal

pub lay_section-requires-clause-even : goal.lay_section-requires-clause-even
lay_section-requires-clause-even g c =
    let geo = c.self.inside.geometry in
    let P : ℕ → Type 0 = λ n. n % 8 ≡ 0 in
    subst P (sym c.split_at_mut-bytes.ensures.front_len) (mod_through c.room_for-room.result geo.min_io 8 c.room_for-room.ensures.whole (min_io-mod (raw_of geo) geo.in_range))

pub returns-clause-done : goal.returns-clause-done
returns-clause-done g c =
    let a = g.V.Volume.state c.args.volume.now in
    let b = g.V.Volume.state c.add.new.volume in
    let at = c.args.self.now in
    let number = c.args.number in
    let geo = c.self.inside.geometry in
    let bytes = c.lay_section.new.bytes in
    let heads = c.args.heads.now in
    let room = c.room_for-room.result in
    let len : ℕ = 32 + 64 * length heads in
    let three = c.requires.three in
    let M : LogAt → Type 0 = λ z. z.geo.min_io % 8 ≡ 0 in
    let even = subst M c.self.view_is (min_io-mod (raw_of geo) geo.in_range) in
    let size : length bytes ≡ room = c.lay_section.auto.bytes ∙ c.split_at_mut-bytes.ensures.front_len in
    let is : room ≡ padded_room_of at.geo.min_io len = c.room_for-room.ensures.room ∙ ap (λ (z : LogAt). padded_room_of z.geo.min_io len) c.self.view_is in
    let L : LogAt → Type 0 = λ z. room ≤ z.geo.leb_size in
    let short = subst L c.self.view_is (fits_leb (raw_of geo) room len geo.in_range (omega (arith, three)) c.room_for-room.ensures.high) in
    let leb_size = c.requires.at.leb_size in
    let high = c.requires.at.here.high in
    let lebs = c.requires.at.lebs in
    let all : 0 + length bytes ≡ room = omega (arith, size) in
    let start : CommitStart = record { cmt_no = c.args.cmt_no } in
    let B : Type 0 = (from next : ℕ) (buds : List HeadAt) → IsLogLeb at.geo from → (next_leb at.geo at.lnum ≢ from) → (number < next) → IsLogReady a at.geo from at.lnum at.offs number buds
    → IsLogReady b at.geo from (next_leb at.geo at.lnum) (padded_room_of at.geo.min_io len) next (fold named_also buds (references_to heads)) in
    on_ok c.add.result (IsAdded false a b at bytes) B
    (λ w from next buds f free later h.
    let Q : ℕ → Type 0 = λ n. IsLogReady b at.geo from (next_leb at.geo at.lnum) n next (fold named_also buds (references_to heads)) in
    let S : List RefNode → Type 0 = λ r. IsLogReady b at.geo from (next_leb at.geo at.lnum) (0 + length bytes) next (fold named_also buds r) in
    subst Q (all ∙ is) (subst S (references_same heads) (added_ready false a b at from number next buds (commit_start start) (head_nodes heads) bytes h f (λ e. absurd cc) (λ e. free) later (g.met.V.Volume.mapped_now c.args.volume.now) w c.add.ensures.works c.lay_section.ensures
    (g.met.V.Volume.leb_len c.args.volume.now at.lnum (omega (arith, high, lebs))) (omega (arith, short, size, leb_size)) (mod_through at.offs at.geo.min_io 8 c.requires.at.unit even))))
    c.add.ensures.done

pub returns-clause-section : goal.returns-clause-section
returns-clause-section g c =
    let a = g.V.Volume.state c.args.volume.now in
    let b = g.V.Volume.state c.add.new.volume in
    let at = c.args.self.now in
    let number = c.args.number in
    let geo = c.self.inside.geometry in
    let bytes = c.lay_section.new.bytes in
    let heads = c.args.heads.now in
    let room = c.room_for-room.result in
    let len : ℕ = 32 + 64 * length heads in
    let three = c.requires.three in
    let there = next_leb at.geo at.lnum in
    let size : length bytes ≡ room = c.lay_section.auto.bytes ∙ c.split_at_mut-bytes.ensures.front_len in
    let is : room ≡ padded_room_of at.geo.min_io len = c.room_for-room.ensures.room ∙ ap (λ (z : LogAt). padded_room_of z.geo.min_io len) c.self.view_is in
    let L : LogAt → Type 0 = λ z. room ≤ z.geo.leb_size in
    let short = subst L c.self.view_is (fits_leb (raw_of geo) room len geo.in_range (omega (arith, three)) c.room_for-room.ensures.high) in
    let leb_size = c.requires.at.leb_size in
    let all : 0 + length bytes ≡ room = omega (arith, size) in
    let start : CommitStart = record { cmt_no = c.args.cmt_no } in
    let B : Type 0 = (next : ℕ) → (number < next) → AreOthersOlder a at.geo there number → IsLogReady b at.geo there there (padded_room_of at.geo.min_io len) next (buds_of (references_to heads)) in
    on_ok c.add.result (IsAdded false a b at bytes) B
    (λ w next later older.
    let Q : ℕ → Type 0 = λ n. IsLogReady b at.geo there there n next (buds_of (references_to heads)) in
    let S : List RefNode → Type 0 = λ r. IsLogReady b at.geo there there (0 + length bytes) next (buds_of r) in
    subst Q (all ∙ is) (subst S (references_same heads) (ready_section a b at.geo number next (0 + length bytes) there start (head_nodes heads) bytes (AddDuring false a at (length bytes)) older later w c.add.ensures.works
    (begun_laid a b there number bytes (section_nodes c.args.cmt_no heads) w c.lay_section.ensures (omega (arith, short, size, leb_size))))))
    c.add.ensures.done

pub returns-clause-commit : goal.returns-clause-commit
returns-clause-commit g c =
    let a = g.V.Volume.state c.args.volume.now in
    let b = g.V.Volume.state c.add.new.volume in
    let at = c.args.self.now in
    let geo = c.self.inside.geometry in
    let bytes = c.lay_section.new.bytes in
    let heads = c.args.heads.now in
    let room = c.room_for-room.result in
    let len : ℕ = 32 + 64 * length heads in
    let three = c.requires.three in
    let there = next_leb at.geo at.lnum in
    let size : length bytes ≡ room = c.lay_section.auto.bytes ∙ c.split_at_mut-bytes.ensures.front_len in
    let L : LogAt → Type 0 = λ z. room ≤ z.geo.leb_size in
    let short = subst L c.self.view_is (fits_leb (raw_of geo) room len geo.in_range (omega (arith, three)) c.room_for-room.ensures.high) in
    let leb_size = c.requires.at.leb_size in
    let start : CommitStart = record { cmt_no = c.args.cmt_no } in
    on_ok c.add.result (IsAdded false a b at bytes) (StartsCommit (b.holds there) there c.args.cmt_no)
    (λ w. starts_commit (b.holds there) there (0 + length bytes) c.args.number (head_nodes heads) start (begun_laid a b there c.args.number bytes (section_nodes c.args.cmt_no heads) w c.lay_section.ensures (omega (arith, short, size, leb_size))))
    c.add.ensures.done

pub returns-clause-starts : goal.returns-clause-starts
returns-clause-starts g c =
    let a = g.V.Volume.state c.args.volume.now in
    let b = g.V.Volume.state c.add.new.volume in
    let at = c.args.self.now in
    let geo = c.self.inside.geometry in
    let bytes = c.lay_section.new.bytes in
    let heads = c.args.heads.now in
    let room = c.room_for-room.result in
    let len : ℕ = 32 + 64 * length heads in
    let three = c.requires.three in
    let there = next_leb at.geo at.lnum in
    let size : length bytes ≡ room = c.lay_section.auto.bytes ∙ c.split_at_mut-bytes.ensures.front_len in
    let L : LogAt → Type 0 = λ z. room ≤ z.geo.leb_size in
    let short = subst L c.self.view_is (fits_leb (raw_of geo) room len geo.in_range (omega (arith, three)) c.room_for-room.ensures.high) in
    let leb_size = c.requires.at.leb_size in
    let start : CommitStart = record { cmt_no = c.args.cmt_no } in
    on_ok c.add.result (IsAdded false a b at bytes) (StartsWith (b.holds there) there (c.args.number + 1))
    (λ w. starts_with (b.holds there) there (0 + length bytes) c.args.number (head_nodes heads) start (begun_laid a b there c.args.number bytes (section_nodes c.args.cmt_no heads) w c.lay_section.ensures (omega (arith, short, size, leb_size))))
    c.add.ensures.done
