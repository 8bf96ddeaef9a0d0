use Rattle.std.proofs.Common.{rules, ◌≡◌, ℕ, ◌<◌, Bor, Err, IfOk, List, Ok, Result, [], get_or, length, map, refl, sym, ap, ◌∙◌, subst, inl, inr, arith}
use Rattle.std.specs.List.{Contains}
use Rattle.std.proofs.lemmas.Bool.{cases_lt}
use Rattle.std.proofs.lemmas.List.{get_or-map, length-map}
use Rattle.rela_nfa.specs.Automaton.{Automaton, moves_of}
use Rattle.rela_nfa.specs.StateSet.{Lists}
use Rattle.rela_nfa.specs.declared.nfa.Nfa.{Nfa}
use Rattle.rela_closed.specs.Sets.{AreMet, ReachedBy}
use Rattle.rela_closed.specs.Splitting.{AreSorted}
use Rattle.rela_closed.proofs.Accepting.{set_at}
use Rattle.rela_closed.proofs.LedAlike.{are_told}
use Rattle.rela_closed.proofs.Readers.{place_of, sets_as_many}
use Rattle.rela_closed.proofs.SetsFound.{sets_in}
use Rattle.rela_closed.proofs.SortedOut.{still_all}
use Rattle.rela_closed.proofs.reader.Reader.blocks.Goals as goal

both_ok : {X E : Type 0} (P Q R : X → Type 0) (r : Result X E) → ((x : X) → P x → Q x → R x) → IfOk r P → IfOk r Q → IfOk r R
both_ok P Q R (Ok x) f p q = f x p q
both_ok P Q R (Err e) f p q = tt

pub bounds-sets-i : goal.bounds-sets-i
bounds-sets-i g c =
    let now : Bor (Nfa g.row.L.Denot) → Automaton = λ a. a.now in
    let many = sets_as_many now (λ set. set.items) c.self.inside.automata.now c.args.sets.now c.args.self.now c.requires.0 c.self.view_is c.requires.1 in
    let below = c.loop-i-test.true in
    omega arith

pub offset_bounds-sets-i : goal.offset_bounds-sets-i
offset_bounds-sets-i g c = let within = bounds-sets-i g c in search rules

-- the set of a place
set_is : {X Y : Type 0} (now : X → Automaton) (items : Y → List ℕ) (xs : List X) (ys : List Y) (mine : List Automaton) (met : AreMet mine (map items ys)) → map now xs ≡ mine → (i : ℕ) (y : Y) (set : List ℕ)
    → i < length xs → y ≡ get_or ys i y → set ≡ items y → get_or (map items ys) i [] ≡ set
set_is now items xs ys mine met is i y set below at value =
    set_at items ys i y (map items ys) set refl (omega (arith, sets_as_many now items xs ys mine met.0 is met.1, length-map ys items)) at value

pub put_from-requires-clause-met : goal.put_from-requires-clause-met
put_from-requires-clause-met g c =
    let now : Bor (Nfa g.row.L.Denot) → Automaton = λ a. a.now in
    let word = c.requires.0 in
    let here = get_or c.self.inside.automata.now c.loop-i.i c.index-self-i.result in (
      word,
      (
        subst (λ set. Lists (ReachedBy (now here) word) set) (set_is now (λ set. set.items) c.self.inside.automata.now c.args.sets.now c.args.self.now c.requires c.self.view_is c.loop-i.i c.index-sets-i.result c.deref.result.now c.loop-i-test.true
            c.index-sets-i.is c.deref.ensures.value)
            (subst (λ a. Lists (ReachedBy (now a) word) (get_or (sets_in c.args.sets.now) c.loop-i.i [])) c.index-self-i.is
            (place_of now c.self.inside.automata.now c.args.self.now c.loop-i.i c.index-self-i.result word (sets_in c.args.sets.now) c.self.view_is c.loop-i-test.true c.index-self-i.is c.requires.1)),
        refl,
      ),
    )

pub loop-i-preserved : goal.loop-i-preserved
loop-i-preserved g c =
    let now : Bor (Nfa g.row.L.Denot) → Automaton = λ a. a.now in
    let over = g.L.LabelSet.letters c.args.over.now in
    let automata = c.self.inside.automata.now in
    let here = get_or automata c.loop-i.i c.index-self-i.result in
    record {
      size = c.in_ok-put_from.ensures.size ∙ c.loop-i.invariant.size;
      sorted = λ i a q below among. elim (cases_lt i c.loop-i.i) [
        | inl earlier ↦
            still_all over c.loop-i.labels c.put_from.new.self c.in_ok-put_from.ensures.more (moves_of (get_or c.args.self.now i a) q) (c.loop-i.invariant.sorted i a q earlier among)
        | inr last ↦
            let at : c.loop-i.i ≡ i = omega arith in
            let is : get_or c.args.self.now c.loop-i.i a ≡ now here = ap (λ l. get_or l c.loop-i.i a) (sym c.self.view_is) ∙ get_or-map now automata c.loop-i.i c.index-self-i.result a c.loop-i-test.true in
            subst (λ n. AreSorted over c.put_from.new.self (moves_of (get_or c.args.self.now n a) q)) at
            (subst (λ b. AreSorted over c.put_from.new.self (moves_of b q)) (sym is)
            (c.in_ok-put_from.ensures.sorted q
            (subst (λ l. Contains l q) (set_is now (λ set. set.items) c.self.inside.automata.now c.args.sets.now c.args.self.now c.requires c.self.view_is c.loop-i.i c.index-sets-i.result c.deref.result.now c.loop-i-test.true
            c.index-sets-i.is c.deref.ensures.value) (subst (λ n. Contains (get_or (sets_in c.args.sets.now) n []) q) (sym at) among))))
      ];
    }

pub returns-clause-told : goal.returns-clause-told
returns-clause-told g c =
    let now : Bor (Nfa g.row.L.Denot) → Automaton = λ a. a.now in
    let all : length c.args.self.now ≡ c.loop-i.i = omega (arith, ap length c.self.view_is, length-map c.self.inside.automata.now now, c.loop-i-test.false, c.loop-i.auto.i-end) in
    both_ok _ _ _ c.new.result
    (λ blocks rest labels. are_told (g.L.LabelSet.letters c.args.over.now) c.loop-i.labels c.args.self.now (sets_in c.args.sets.now) blocks
    (λ i a q below among. c.loop-i.invariant.sorted i a q (omega arith) among) rest labels) c.new.ensures.rest c.new.ensures.labels
