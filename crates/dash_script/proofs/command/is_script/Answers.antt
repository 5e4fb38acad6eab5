use Rattle.std.proofs.Common.{[], ◌∷◌, string_bytes, ap, sym, ◌∙◌}
use Rattle.std.proofs.lemmas.Slice.Eq.{slice_eq-Decides}
use Rattle.std.proofs.lemmas.Bool.Decides.{Decides-eqb}
use Rattle.dash_script.specs.inner.Command.{script}
use Rattle.dash_script.proofs.OneWord.{only, first-word}
use Rattle.dash_script.proofs.command.is_script.Goals as goal

pub returns-then-words-eq1 : goal.returns-then-words-eq1
returns-then-words-eq1 c =
    let is = only string_bytes c.args.words.now c.index-words-0.result c.if-words-eq1.true c.index-words-0.is in
    let same = slice_eq-Decides Decides-eqb c.as_str.result.now script c.eq.result c.eq.ensures in (
      λ yes. is ∙ ap (λ w. w ∷ []) (sym c.as_str.ensures.value ∙ same.0 yes),
      λ words. same.1 (c.as_str.ensures.value ∙ first-word (sym is ∙ words)),
    )
