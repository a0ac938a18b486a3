use Rattle.std.proofs.Common.{◌-◌, List, [], ◌∷◌, ◌++◌, ap, sym, ◌∙◌}
use Rattle.node_fields.specs.Fields.{Field, ignored, spelling}
use Rattle.media_sys.specs.Master.{root_fields, head_fields, total_fields, lpt_fields, count_fields}
use Rattle.media_sys.proofs.FieldLemmas.{spelling-append}
use Rattle.media_sys.proofs.master.write_body.Goals as goal

-- group after group, from the last to the first
pub returns-clause-spelling : goal.returns-clause-spelling
returns-clause-spelling c =
    let node = c.args.node.now in
    let g5 : List Field = ignored 344 ∷ [] in
    let g4 = count_fields node ++ g5 in
    let g3 = lpt_fields node ++ g4 in
    let g2 = total_fields node ++ g3 in
    let g1 = head_fields node ++ g2 in
    c.write_root.ensures.spelling ∙ ap (spelling (root_fields node))
    (c.write_head.ensures.spelling ∙ ap (spelling (head_fields node))
    (c.write_totals.ensures.spelling ∙ ap (spelling (total_fields node))
    (c.write_lpt.ensures.spelling ∙ ap (spelling (lpt_fields node))
    (c.write_counts.ensures.spelling ∙ ap (spelling (count_fields node))
    (c.put_zeros.ensures ∙ ap (λ n. spelling (ignored (n - 144) ∷ []) []) c.requires)
    ∙ sym (spelling-append (count_fields node) g5 []))
    ∙ sym (spelling-append (lpt_fields node) g4 []))
    ∙ sym (spelling-append (total_fields node) g3 []))
    ∙ sym (spelling-append (head_fields node) g2 []))
    ∙ sym (spelling-append (root_fields node) g1 [])
