use Rattle.std.proofs.Common.{◌-◌, List, [], ◌∷◌, ◌++◌, ap, sym, ◌∙◌}
use Rattle.node_fields.specs.Fields.{Field, ignored, spelling}
use Rattle.media_sys.specs.Superblock.{size_fields, area_fields, pool_fields, version_fields}
use Rattle.media_sys.proofs.FieldLemmas.{spelling-append}
use Rattle.media_sys.proofs.super_node.write_body.Goals as goal

-- group after group, from the last to the first
pub returns-clause-spelling : goal.returns-clause-spelling
returns-clause-spelling c =
    let node = c.args.node.now in
    let g4 : List Field = ignored 3968 ∷ [] in
    let g3 = version_fields node ++ g4 in
    let g2 = pool_fields node ++ g3 in
    let g1 = area_fields node ++ g2 in
    c.write_sizes.ensures.spelling ∙ ap (spelling (size_fields node))
    (c.write_areas.ensures.spelling ∙ ap (spelling (area_fields node))
    (c.write_pool.ensures.spelling ∙ ap (spelling (pool_fields node))
    (c.write_version.ensures.spelling ∙ ap (spelling (version_fields node))
    (c.put_zeros.ensures ∙ ap (λ n. spelling (ignored (n - 104) ∷ []) []) c.requires)
    ∙ sym (spelling-append (version_fields node) g4 []))
    ∙ sym (spelling-append (pool_fields node) g3 []))
    ∙ sym (spelling-append (area_fields node) g2 []))
    ∙ sym (spelling-append (size_fields node) g1 [])
