-- Words of symbols are related just as the words of their letters are.
use Rattle.std.proofs.Common.{◌≡◌, ℕ, Bool, true, List, [], ◌∷◌, ◌++◌, length, map, refl, sym, ap, ◌∙◌, subst, arith}
use Rattle.std.proofs.lemmas.List.{map-append}
use Rattle.rela_labels.specs.Letters.{has}
use Rattle.rela_trans.specs.Machine.{Kind, Machine}
use Rattle.rela_trans.specs.Runs.{Does, Follow, IsSymbolOf, ReachR, Relates, Step, inputs, outputs}
use Rattle.rela_trans.specs.declared.moves.MoveKind.TheVariants.{Silent, In, Out, Same}

-- ---- what a word was mapped from

pub no_word : (g : ℕ → ℕ) (w : List ℕ) → [] ≡ map g w → w ≡ []
no_word g [] e = refl
no_word g (s ∷ w) e = absurd (omega (arith, ap length e))

one_symbol : (g : ℕ → ℕ) (w : List ℕ) (k : ℕ) → k ∷ [] ≡ map g w → (s : ℕ) × (w ≡ s ∷ []) × (g s ≡ k)
one_symbol g [] k e = absurd (omega (arith, ap length e))
one_symbol g (s ∷ []) k e = let same : k ≡ g s = cc in (s, refl, sym same)
one_symbol g (s ∷ t ∷ w) k e = absurd (omega (arith, ap length e))

-- what was mapped to a word in two parts has two parts too
two_parts : (g : ℕ → ℕ) (x y w : List ℕ) → x ++ y ≡ map g w → (front : List ℕ) × (rest : List ℕ) × (w ≡ front ++ rest) × (x ≡ map g front) × (y ≡ map g rest)
two_parts g [] y w e = ([], w, refl, refl, e)
two_parts g (k ∷ x) y [] e = absurd (omega (arith, ap length e))
two_parts g (k ∷ x) y (s ∷ w) e =
    let head : k ≡ g s = cc in
    let tail : x ++ y ≡ map g w = cc in
    let parts = two_parts g x y w tail in
    (s ∷ parts.0, parts.1, ap (λ l. s ∷ l) parts.2, (λ i. head i ∷ parts.3 i), parts.4)

-- ---- from letters to symbols and back, where g gives the letter of each symbol

module _ (f g : ℕ → ℕ) where
  abbrev pub both : ℕ → ℕ
  both s = f (g s)

  symbol_from : (set : List Bool) (a : List ℕ) → IsSymbolOf f set (map g a) → IsSymbolOf both set a
  symbol_from set a (k, among, e) = let one = one_symbol g a k (sym e) in (one.0, subst (λ j. has set (f j) ≡ true) (sym one.2) among, one.1)

  letter_from : (set : List Bool) (a : List ℕ) → IsSymbolOf both set a → IsSymbolOf f set (map g a)
  letter_from set a (s, among, e) = (g s, among, ap (λ l. map g l) e)

  -- some symbols with the letters that are read, and the symbols that are to be written
  does_symbols : (kind : Kind) (a b : List ℕ) → Does f kind (map g a) (map g b) → (x : List ℕ) × (map g x ≡ map g a) × Does both kind x b
  does_symbols Silent a b does = ([], sym does.0, (refl, no_word g b (sym does.1)))
  does_symbols (In set) a b does = (a, refl, (symbol_from set a does.0, no_word g b (sym does.1)))
  does_symbols (Out set) a b does = ([], sym does.0, (refl, symbol_from set b does.1))
  does_symbols (Same set) a b does = (b, does.1, (symbol_from set b (subst (IsSymbolOf f set) (sym does.1) does.0), refl))

  does_letters : (kind : Kind) (a b : List ℕ) → Does both kind a b → Does f kind (map g a) (map g b)
  does_letters Silent a b does = (ap (λ l. map g l) does.0, ap (λ l. map g l) does.1)
  does_letters (In set) a b does = (letter_from set a does.0, ap (λ l. map g l) does.1)
  does_letters (Out set) a b does = (ap (λ l. map g l) does.0, letter_from set b does.1)
  does_letters (Same set) a b does = (letter_from set a does.0, ap (λ l. map g l) does.1)

  symbols_follow : (t : Machine) (p q : ℕ) (steps : List Step) (u v : List ℕ) → Follow f t p steps q → inputs steps ≡ map g u → outputs steps ≡ map g v
      → (more : List Step) × Follow both t p more q × (map g (inputs more) ≡ inputs steps) × (outputs more ≡ v)
  symbols_follow t p q [] u v follow read written = ([], follow, refl, sym (no_word g v written))
  symbols_follow t p q (step ∷ rest) u v follow read written =
      let ins = two_parts g step.input (inputs rest) u read in
      let outs = two_parts g step.output (outputs rest) v written in
      let kind = follow.0.0 in
      let made = does_symbols kind ins.0 outs.0 (subst (λ l. Does f kind l (map g outs.0)) ins.3 (subst (λ l. Does f kind step.input l) outs.3 follow.0.2)) in
      let later = symbols_follow t step.to q rest ins.1 outs.1 follow.1 ins.4 outs.4 in
      let first : Step = record { input = made.0; output = outs.0; to = step.to } in (
        first ∷ later.0,
        ((kind, follow.0.1, made.2), later.1),
        map-append g made.0 (inputs later.0) ∙ (λ i. (made.1 ∙ sym ins.3) i ++ later.2 i),
        (λ i. outs.0 ++ later.3 i) ∙ sym outs.2,
      )

  letters_follow : (t : Machine) (p q : ℕ) (steps : List Step) → Follow both t p steps q
      → (more : List Step) × Follow f t p more q × (inputs more ≡ map g (inputs steps)) × (outputs more ≡ map g (outputs steps))
  letters_follow t p q [] follow = ([], follow, refl, refl)
  letters_follow t p q (step ∷ rest) follow =
      let later = letters_follow t step.to q rest follow.1 in
      let first : Step = record { input = map g step.input; output = map g step.output; to = step.to } in (
        first ∷ later.0,
        ((follow.0.0, follow.0.1, does_letters follow.0.0 step.input step.output follow.0.2), later.1),
        (λ i. map g step.input ++ later.2 i) ∙ sym (map-append g step.input (inputs rest)),
        (λ i. map g step.output ++ later.3 i) ∙ sym (map-append g step.output (outputs rest)),
      )

  -- where words of letters reach a state, so does each word of symbols with the letters written, for one with the letters read
  pub symbols_reached : (t : Machine) (q : ℕ) (u v : List ℕ) → ReachR f t q (map g u) (map g v) → (x : List ℕ) × (map g x ≡ map g u) × ReachR both t q x v
  symbols_reached t q u v (steps, follow, read, written) =
      let found = symbols_follow t t.start q steps u v follow read written in
      (inputs found.0, found.2 ∙ read, (found.0, found.1, refl, found.3))

  -- and where words of symbols do, so do those of their letters
  pub letters_reached : (t : Machine) (q : ℕ) (u v : List ℕ) → ReachR both t q u v → ReachR f t q (map g u) (map g v)
  letters_reached t q u v (steps, follow, read, written) =
      let found = letters_follow t t.start q steps follow in
      (found.0, found.1, found.2 ∙ ap (λ l. map g l) read, found.3 ∙ ap (λ l. map g l) written)

  -- related words are those that reach a final state
  pub symbols_related : (t : Machine) (u v : List ℕ) → Relates f t (map g u) (map g v) → (x : List ℕ) × (map g x ≡ map g u) × Relates both t x v
  symbols_related t u v (q, reach, final) = let found = symbols_reached t q u v reach in (found.0, found.1, (q, found.2, final))

  pub letters_related : (t : Machine) (u v : List ℕ) → Relates both t u v → Relates f t (map g u) (map g v)
  letters_related t u v (q, reach, final) = (q, letters_reached t q u v reach, final)
