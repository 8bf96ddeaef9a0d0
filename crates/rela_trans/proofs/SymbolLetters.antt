-- Words of symbols are related just as the words of their letters are.
use Rattle.std.proofs.Common.{◌≡◌, ℕ, Bool, true, List, [], ◌∷◌, ◌++◌, map, refl, sym, ap, ◌∙◌, subst, arith}
use Rattle.std.proofs.lemmas.List.{map-append}
use Rattle.std.proofs.lemmas.List.Elements.{All-contains}
use Rattle.rela_labels.specs.Letters.{has}
use Rattle.rela_trans.specs.Composition.{Covers}
use Rattle.rela_trans.specs.Machine.{Machine, Kind, IsMachine, IsMove, IsSized, moves_of, machine_states}
use Rattle.rela_trans.specs.Runs.{IsSymbolOf, Does, HasStep, ReachR, Relates}
use Rattle.rela_trans.specs.declared.moves.MoveKind.TheVariants.{Silent, In, Out, Same}
use Rattle.rela_trans.proofs.Accessors.{moves_ok}
use Rattle.rela_trans.proofs.MappedWords.{no_word, one_symbol, split_word}
use Rattle.rela_trans.proofs.Reaching.{subst_pair, reach_start, reach_step, reach_each}
use Rattle.rela_trans.proofs.SharedLetters.{has_below}

module _ (read : ℕ → ℕ) where
  -- ---- from symbols to letters

  letter_of : (set : List Bool) (w : List ℕ) → IsSymbolOf read set w → IsSymbolOf (λ k. k) set (map read w)
  letter_of set w (s, among, e) = (read s, among, ap (λ l. map read l) e)

  does_letters : (kind : Kind) (input output : List ℕ) → Does read kind input output → Does (λ k. k) kind (map read input) (map read output)
  does_letters Silent input output does = (ap (λ l. map read l) does.0, ap (λ l. map read l) does.1)
  does_letters (In set) input output does = (letter_of set input does.0, ap (λ l. map read l) does.1)
  does_letters (Out set) input output does = (ap (λ l. map read l) does.0, letter_of set output does.1)
  does_letters (Same set) input output does = (letter_of set input does.0, ap (λ l. map read l) does.1)

  pub letters_reached : (t : Machine) (q : ℕ) (u v : List ℕ) → ReachR read t q u v → ReachR (λ k. k) t q (map read u) (map read v)
  letters_reached t =
      reach_each read t (λ q u v. ReachR (λ k. k) t q (map read u) (map read v))
      (λ p q u v input output reach there step.
      subst_pair (ReachR (λ k. k) t q) (sym (map-append read u input)) (sym (map-append read v output))
      (reach_step (λ k. k) t p q (map read u) (map read v) (map read input) (map read output) there (step.0, step.1, does_letters step.0 input output step.2)))
      (reach_start (λ k. k) t)

  pub letters_related : (t : Machine) (u v : List ℕ) → Relates read t u v → Relates (λ k. k) t (map read u) (map read v)
  letters_related t u v (q, reach, final) = (q, letters_reached t q u v reach, final)

  -- ---- from letters to symbols

  -- some symbols with the letters that were read, and the symbols that are to be written
  abbrev Lifts : Kind → List ℕ → List ℕ → Type 0
  Lifts kind input written = (source : List ℕ) × (map read source ≡ input) × Does read kind source written

  does_symbols : (letters : ℕ) → Covers read letters → (kind : Kind) (input written : List ℕ) → IsSized letters kind → Does (λ k. k) kind input (map read written) → Lifts kind input written
  does_symbols letters covers Silent input written size does = ([], sym does.0, (refl, no_word read written (sym does.1)))
  does_symbols letters covers (In set) input written size does =
      let k = does.0.0 in
      let symbol = covers k (omega (arith, has_below set k does.0.1, size)) in (
        symbol.0 ∷ [],
        ap (λ j. j ∷ []) symbol.1 ∙ sym does.0.2,
        ((symbol.0, subst (λ j. has set j ≡ true) (sym symbol.1) does.0.1, refl), no_word read written (sym does.1)),
      )
  does_symbols letters covers (Out set) input written size does =
      let symbol = one_symbol read written does.1.0 (sym does.1.2) in
      ([], sym does.0, (refl, (symbol.0, subst (λ j. has set j ≡ true) (sym symbol.2) does.1.1, symbol.1)))
  does_symbols letters covers (Same set) input written size does =
      let symbol = one_symbol read written does.0.0 (sym (does.1 ∙ does.0.2)) in
      (written, does.1, ((symbol.0, subst (λ j. has set j ≡ true) (sym symbol.2) does.0.1, symbol.1), refl))

  module _ (t : Machine) (ok : IsMachine t) (covers : Covers read t.letters) where
    -- each word of symbols with the letters written is written for some word with the letters read
    abbrev Lifted : ℕ → List ℕ → List ℕ → Type 0
    Lifted q letters written = (v : List ℕ) → written ≡ map read v → (u : List ℕ) × (map read u ≡ letters) × ReachR read t q u v

    lifted_step : (p q : ℕ) (letters written input output : List ℕ) → Lifted p letters written → HasStep (λ k. k) t p input output q → Lifted q (letters ++ input) (written ++ output)
    lifted_step p q letters written input output lifted step v e =
        let move = All-contains (IsMove t.letters (machine_states t)) (moves_of t p) (record { kind = step.0; to = q }) (moves_ok t ok p) step.1 in
        let parts = split_word read written output v e in
        let before = lifted parts.0 parts.3 in
        let made = does_symbols t.letters covers step.0 input parts.1 move.sized (subst (λ w. Does (λ k. k) step.0 input w) parts.4 step.2) in (
          before.0 ++ made.0,
          map-append read before.0 made.0 ∙ (λ i. before.1 i ++ made.1 i),
          subst (λ w. ReachR read t q (before.0 ++ made.0) w) (sym parts.2)
              (reach_step read t p q before.0 parts.0 made.0 parts.1 before.2 (step.0, step.1, made.2)),
        )

    pub symbols_reached : (q : ℕ) (letters v : List ℕ) → ReachR (λ k. k) t q letters (map read v) → (u : List ℕ) × (map read u ≡ letters) × ReachR read t q u v
    symbols_reached q letters v reach =
        reach_each (λ k. k) t Lifted (λ p q letters written input output before lifted step. lifted_step p q letters written input output lifted step)
        (λ v e. ([], refl, subst (λ w. ReachR read t t.start [] w) (sym (no_word read v e)) (reach_start read t))) q letters (map read v) reach v refl

    pub symbols_related : (letters v : List ℕ) → Relates (λ k. k) t letters (map read v) → (u : List ℕ) × (map read u ≡ letters) × Relates read t u v
    symbols_related letters v (q, reach, final) =
        let found = symbols_reached q letters v reach in
        (found.0, found.1, (q, found.2, final))
