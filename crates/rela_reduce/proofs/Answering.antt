-- States that can go along with others by rows of answers.
use Rattle.std.proofs.Common.{ℕ, Bool, List, [], get_or, Option, None, Some}
use Rattle.std.specs.Option.{MatchOption}
use Rattle.std.proofs.lemmas.List.Elements.{All-weaker}
use Rattle.rela_reduce.specs.Bits.{HasBit}
use Rattle.rela_reduce.specs.Numbered.{Plain}
use Rattle.rela_reduce.specs.Simulation.{GoesAlong, GoesByRows, HasAnswer, IsAnswered, IsInRow, arrows_of}
use Rattle.rela_reduce.specs.declared.arrow.Step.{Step}

-- where each answer is right, what goes along by them does
pub along_by_rows : (n : Plain) (steps : List (List Step)) (finals : List Bool) (within : List (List Bool)) (relation answers : List (List ℕ)) (p q : ℕ)
    → ((k t : ℕ) → HasBit answers k t → HasAnswer within relation (get_or steps p []) k t) → GoesByRows n finals relation answers p q → GoesAlong n steps finals within relation p q
along_by_rows n steps finals within relation answers p q right along = record {
  final = along.final;
  answered = All-weaker (IsInRow relation answers p) (IsAnswered within relation p (get_or steps p [])) (λ arrow. by arrow.label arrow.to) (arrows_of n.arrows q) along.answered;
}
  where
    by : (label : Option ℕ) (t : ℕ) → MatchOption label (HasBit relation p t) (λ k. HasBit answers k t) → MatchOption label (HasBit relation p t) (λ k. HasAnswer within relation (get_or steps p []) k t)
    by None t set = set
    by (Some k) t set = right k t set
