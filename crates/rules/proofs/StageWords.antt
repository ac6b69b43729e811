-- Sets without a stage.
use Rattle.std.proofs.Common.{◌≡◌, ℕ, false, eqb, Decides, sym, ap, ◌∙◌}
use Rattle.std.proofs.lemmas.Bool.{eq-eqb, eqb-true}
use Rattle.graph.proofs.Marks.{same_words}
use Rattle.graph.specs.Marks.{marked}
use Rattle.graph.specs.StageSets.{stages}
use Rattle.graph.specs.declared.stage_set.StageSet.{StageSet}

-- a set has the word of a set without a stage exactly if it has none
pub no_stage_decides : (set none : StageSet) → ((s : ℕ) → stages none s ≡ false) → Decides (eqb set.word none.word) ((s : ℕ) → stages set s ≡ false)
no_stage_decides set none f = (
  λ e s. ap (λ w. marked w s) (eqb-true _ _ e) ∙ f s,
  λ h. eq-eqb _ _ (same_words _ _ set.fits none.fits (λ s. h s ∙ sym (f s))),
)
