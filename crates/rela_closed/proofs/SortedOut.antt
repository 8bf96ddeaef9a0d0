-- Labels of edges that are sorted out one after the other.
use Rattle.std.proofs.Common.{◌≡◌, ◌≢◌, ℕ, Bool, true, List, [], ◌∷◌, ◌++◌, sym, ap, ◌∙◌, subst, inl, inr}
use Rattle.std.specs.List.{Contains}
use Rattle.std.specs.Option.{ForSome}
use Rattle.std.proofs.lemmas.Bool.{cases_eq}
use Rattle.std.proofs.lemmas.List.Elements.{All-push, All-weaker, Contains-append_left, Contains-push}
use Rattle.rela_labels.specs.Letters.{has}
use Rattle.rela_nfa.specs.Automaton.{Move}
use Rattle.rela_closed.specs.Splitting.{AreSorted, IsMore, IsSorted, Sorted}

module _ (over : List Bool) where
  pub more_same : (s : Sorted) → IsMore over s s
  more_same s = record { alone = λ k _ h. h; others = λ label c. c }

  pub more_more : (old mid new : Sorted) → IsMore over old mid → IsMore over mid new → IsMore over old new
  more_more old mid new first second = record {
    alone = λ k read h. second.alone k read (first.alone k read h);
    others = λ label c. second.others label (first.others label c);
  }

  -- what was sorted out still is
  pub still : (old new : Sorted) → IsMore over old new → (label : List Bool) → IsSorted over old label → IsSorted over new label
  still old new more label is = elim is [
    | inl among ↦ inl (more.others label among)
    | inr covered ↦ inr (λ k read h. more.alone k read (covered k read h))
  ]

  pub still_all : (old new : Sorted) → IsMore over old new → (moves : List Move) → AreSorted over old moves → AreSorted over new moves
  still_all old new more moves are =
      All-weaker (λ move. ForSome move.label (IsSorted over old)) (λ move. ForSome move.label (IsSorted over new)) (λ move is label e. still old new more label (is label e)) moves are

  -- the labels of one edge more
  pub sorted_more : (old new : Sorted) (moves moves' : List Move) (move : Move) → moves' ≡ moves ++ move ∷ [] → IsMore over old new → AreSorted over old moves → ForSome move.label (IsSorted over new)
      → AreSorted over new moves'
  sorted_more old new moves moves' move grown more are is =
      subst (AreSorted over new) (sym grown) (All-push (λ m. ForSome m.label (IsSorted over new)) moves move (still_all old new more moves are) is)

  module _ (old new : Sorted) (label : List Bool) where
    -- a label of one letter
    module _ (letter : ℕ) (others : new.others ≡ old.others) (added : has new.alone letter ≡ true) (kept : (k : ℕ) → k ≢ letter → has new.alone k ≡ has old.alone k) where
      pub more_letter : IsMore over old new
      more_letter = record {
        alone = λ k read h. elim (cases_eq k letter) [
          | inl same ↦ ap (has new.alone) same ∙ added
          | inr other ↦ kept k other ∙ h
        ];
        others = λ l c. subst (λ ls. Contains ls l) (sym others) c;
      }

      pub sorted_letter : ((k : ℕ) → has label k ≡ true → k ≡ letter) → IsSorted over new label
      sorted_letter only = inr (λ k read h. ap (has new.alone) (only k h) ∙ added)

    -- another label
    module _ (alone : new.alone ≡ old.alone) (pushed : new.others ≡ old.others ++ label ∷ []) where
      pub more_other : IsMore over old new
      more_other = record {
        alone = λ k read h. ap (λ l. has l k) alone ∙ h;
        others = λ l c. subst (λ ls. Contains ls l) (sym pushed) (Contains-append_left old.others (label ∷ []) l c);
      }

      pub sorted_other : IsSorted over new label
      sorted_other = inl (subst (λ ls. Contains ls label) (sym pushed) (Contains-push old.others label))

  -- all letters are to come by themselves
  module _ (old new : Sorted) (alone : new.alone ≡ over) (others : new.others ≡ old.others) where
    pub more_alone : IsMore over old new
    more_alone = record {
      alone = λ k read h. ap (λ l. has l k) alone ∙ read;
      others = λ l c. subst (λ ls. Contains ls l) (sym others) c;
    }

    pub sorted_alone : (moves : List Move) → AreSorted over new moves
    sorted_alone moves i d below label e = inr (λ k read h. ap (λ l. has l k) alone ∙ read)
