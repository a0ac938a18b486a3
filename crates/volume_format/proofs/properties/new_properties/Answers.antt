use Rattle.std.proofs.Common.{◌≡◌, ◌-◌, List, ◌∷◌, false, replicate, rules, sym, subst, ap, ◌∙◌}
use Rattle.std.specs.Prelude.{slice_set}
use Rattle.ubifs_base.specs.Areas.{main_lebs}
use Rattle.ubifs_base.specs.RawOf.{raw_of}
use Rattle.media_lpt.specs.declared.lprop.Lprop.{Lprop}
use Rattle.lpt_area.specs.Written.{AreProps, IsLprop}
use Rattle.laid_main.specs.Props.{prop_behind}
use Rattle.volume_format.specs.Format.{new_props}
use Rattle.volume_format.proofs.NewProps.{first_two, new_are_props}
use Rattle.volume_format.proofs.properties.new_properties.Goals as goal

pub returns-clause-whole : goal.returns-clause-whole
returns-clause-whole c =
    let geo = raw_of c.args.geometry.now in
    let P : List Lprop → Type 0 = λ props. AreProps geo props in
    let Q : Lprop → Type 0 = λ prop. IsLprop geo prop in
    let empty : Lprop = record { free = c.args.geometry.now.leb_size; dirty = 0; index = false } in
    let rest : List Lprop = replicate (main_lebs geo - 2) empty in
    let items : c.in_ok-props.props.items ≡ replicate (main_lebs geo) empty = search rules in
    let e : slice_set (slice_set c.in_ok-props.props.items 0 c.behind.result) 1 c.behind-2.result ≡ new_props geo =
    ap (λ (items : List Lprop). slice_set (slice_set items 0 c.behind.result) 1 c.behind-2.result) items ∙ first_two (main_lebs geo) empty c.behind.result c.behind-2.result c.requires.two
    ∙ ap (λ (p : Lprop). p ∷ c.behind-2.result ∷ rest) c.behind.ensures.prop ∙ ap (λ (p : Lprop). prop_behind geo 160 false ∷ p ∷ rest) c.behind-2.ensures.prop in
    subst P (sym e) (new_are_props geo c.args.geometry.now.in_range c.requires.two (subst Q c.behind.ensures.prop c.behind.ensures.possible) (subst Q c.behind-2.ensures.prop c.behind-2.ensures.possible))
