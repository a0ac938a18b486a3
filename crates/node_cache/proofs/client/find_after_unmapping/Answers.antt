use Rattle.std.proofs.Common.{◌≡◌, ◌<◌, ℕ, sym, subst}
use Rattle.std.specs.Prelude.{◌≢◌, All}
use Rattle.std.proofs.lemmas.List.Elements.{All-weaker}
use Rattle.index_media.specs.PlacedRow.{lebs_of}
use Rattle.node_cache.proofs.client.find_after_unmapping.Goals as goal

pub find-requires : goal.find-requires
find-requires g c =
    let a = g.V.Volume.state c.args.volume.now in
    let b = g.V.Volume.state c.unmap.new.self in
    let own = c.requires.index in
    let P : ℕ → Type 0 = λ n. All (λ lnum. lnum < n) (lebs_of own.1) in
    let same = All-weaker (λ k. k ≢ c.args.lnum) (λ k. b.holds k ≡ a.holds k) (λ k other. c.unmap.ensures.works.others k other) (lebs_of own.1) own.3 in
    record {
      index = (
        own.0,
        own.1,
        record {
          index = c.an_index_depends_on_its_lebs_alone.ensures a.holds b.holds own.0 c.args.root.now own.1 same own.2.index;
          there = subst P (sym c.unmap.ensures.shape.leb_cnt) own.2.there;
          key = own.2.key;
        },
      );
      kept = c.forget.ensures.kept a.holds b.holds c.unmap.ensures.works.others c.requires.kept;
    }

pub returns-clause-found : goal.returns-clause-found
returns-clause-found g c = λ fanout placed on apart.
    let a = g.V.Volume.state c.args.volume.now in
    let b = g.V.Volume.state c.unmap.new.self in
    let P : ℕ → Type 0 = λ n. All (λ lnum. lnum < n) (lebs_of placed) in
    let same = All-weaker (λ k. k ≢ c.args.lnum) (λ k. b.holds k ≡ a.holds k) (λ k other. c.unmap.ensures.works.others k other) (lebs_of placed) apart in
    c.find.ensures.found fanout placed (record {
      index = c.an_index_depends_on_its_lebs_alone.ensures a.holds b.holds fanout c.args.root.now placed same on.index;
      there = subst P (sym c.unmap.ensures.shape.leb_cnt) on.there;
      key = on.key;
    })

pub returns-in_err-unmap-clause-kept : goal.returns-in_err-unmap-clause-kept
returns-in_err-unmap-clause-kept g c =
    c.forget.ensures.kept (g.V.Volume.state c.args.volume.now).holds (g.V.Volume.state c.unmap.new.self).holds c.unmap.ensures.works.others c.requires.kept
