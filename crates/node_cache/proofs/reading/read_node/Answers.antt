use Rattle.std.proofs.Common.{◌≡◌, ◌∙◌, List, ℕ, length, sym, subst, rules}
use Rattle.media_sys.specs.SystemNode.{IsSystemNode, index}
use Rattle.node_cache.specs.RowsOn.{read_bytes, front_taken}
use Rattle.node_cache.proofs.reading.read_node.Goals as goal

pub returns-clause-said : goal.returns-clause-said
returns-clause-said g c said h =
    let branch = c.args.branch.now in
    let leb = (g.V.Volume.state c.args.volume.now).holds branch.lnum in
    let P : List ℕ → Type 0 = λ bytes. IsSystemNode bytes h.sqnum h.group (index said) in
    let long : length c.deref_mut.result.now ≡ branch.len = search rules in
    let back : c.deref.result.now ≡ c.read.new.out = c.deref.ensures.value ∙ front_taken _ _ _ (search rules) in
    c.in_ok-node.ensures.said h.sqnum h.group said (subst P (sym (back ∙ c.in_ok-read.ensures.read ∙ read_bytes leb branch.offs (length c.deref_mut.result.now) branch.len long)) h.is)
