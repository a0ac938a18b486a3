use Rattle.std.proofs.Common.{◌≡◌, true, false, rules, sym, ◌∙◌, ◌++◌, List, ℕ, ap, inl, inr, refl}
use Rattle.std.proofs.lemmas.Bool.{false≢true}
use Rattle.script_text.specs.declared.manifest.Manifest.{Manifest}
use Rattle.script_text.specs.Manifest.{BeginsWithVolume, HasRange, volume_line}
use Rattle.script_text.proofs.ManifestLaws.{volume_once}
use Rattle.script_text.proofs.manifest.read_manifest.Goals as goal

-- a line with `packed` is no line without it
packed_alone : (text : List ℕ) (m : Manifest) (x rest : List ℕ) → HasRange m → m.packed ≡ true → text ≡ volume_line m ++ x → BeginsWithVolume text rest → ⊥
packed_alone text m x rest range packed e begins =
    let same = volume_once m begins.0 x rest range begins.1 (sym e ∙ begins.3) in
    false≢true (sym begins.2 ∙ (ap (λ (k : Manifest). k.packed) (sym same.0) ∙ packed))

pub returns-then-manifest-clause-line : goal.returns-then-manifest-clause-line
returns-then-manifest-clause-line c =
    inl (refl, λ rest begins. packed_alone c.args.bytes.now c.in-Some.manifest c.in-Some.rest.now rest c.in-Some.ensures.range c.if-manifest.true c.in-Some.ensures.found begins)

pub returns-in_default-after-clause-line : goal.returns-in_default-after-clause-line
returns-in_default-after-clause-line c =
    let plain : c.in-Some.manifest.packed ≡ false = search rules in
    inr (inl (
      refl,
      (
        c.in-Some.rest.now,
        (c.in-Some.manifest, c.in-Some.ensures.range, plain, c.in-Some.ensures.found),
        λ more e. c.in_default-after.ensures.none more (e ∙ sym (ap (λ (t : List ℕ). t ++ more) c.as_slice.ensures)),
      ),
    ))
