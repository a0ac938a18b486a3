use Rattle.std.proofs.Common.{ap, ◌∙◌, List, ℕ}
use Rattle.ubifs_base.specs.declared.key.Key.TheVariants.{Ino}
use Rattle.node_fields.specs.Fields.{spelling, key_fields}
use Rattle.media_leaf.specs.Inode.{size_fields, time_fields, owner_fields, extra_fields, last_fields}
use Rattle.media_leaf.proofs.ino_node.write_body.Goals as goal

-- group after group, from the last to the first
pub returns-clause-spelling : goal.returns-clause-spelling
unfolding spelling
returns-clause-spelling c =
    let node = record c.args.node.now { bytes = c.args.bytes.now } in
    c.write_first.ensures.spelling ∙ ap (λ (b : List ℕ). spelling (key_fields (Ino node.ino)) (spelling (size_fields node) b))
    (c.write_times.ensures.spelling ∙ ap (spelling (time_fields node))
    (c.write_owner.ensures.spelling ∙ ap (spelling (owner_fields node))
    (c.write_extra.ensures.spelling ∙ ap (spelling (extra_fields node))
    (c.write_last.ensures ∙ ap (spelling last_fields) c.put_last.ensures))))
