use Rattle.std.proofs.Common.{◌≡◌, ◌-◌, ◌<◌, ◌≤◌, ℕ, List, [], Err, length, get_or, refl, sym, ap, subst, arith}
use Rattle.rela_names.specs.Shortlex.{First}
use Rattle.rela_letter_nfa.specs.Differences.{Differs, IsOnSide}
use Rattle.rela_letter_nfa.specs.Pair.{HasFinalFrom, IsSoughtSet}
use Rattle.rela_letter_nfa.specs.Searching.{AreTraced}
use Rattle.rela_letter_nfa.specs.declared.arrival.Arrival.{Arrival}
use Rattle.rela_letter_nfa.specs.declared.difference.Which.TheVariants as which
use Rattle.rela_letter_nfa.proofs.Differing.{first_sought, none_sought, side_of_first}
use Rattle.rela_letter_nfa.proofs.PairsBefore.{pairs_before}
use Rattle.rela_letter_nfa.proofs.comparison.difference_of.Goals as goal

pub returns-in_err-found-clause-limit : goal.returns-in_err-found-clause-limit
returns-in_err-found-clause-limit c =
    let fault : c.from_residual.result ≡ Err c.in_err-found.field-0.0 = grind arith in
    rw fault (λ is_limit.
    pairs_before c.args.sought c.args.both.now c.requires.paired c.args.limit c.search.new.sets c.search.new.arrivals.items (c.in_err-found.ensures.limit is_limit))

pub returns-in_err-found-clause-bounded : goal.returns-in_err-found-clause-bounded
returns-in_err-found-clause-bounded c =
    let fault : c.from_residual.result ≡ Err c.in_err-found.field-0.0 = grind arith in
    rw fault (λ is_limit. (c.in_err-found.ensures.limit is_limit).past.small)

pub returns-then-not-found-clause-none : goal.returns-then-not-found-clause-none
returns-then-not-found-clause-none c =
    let sets = c.search.new.sets in
    none_sought c.args.sought c.args.both.now c.requires.paired sets c.search.new.arrivals.items (length sets) 0 (c.in_ok-found.ensures.searched c.if-not-found.true) refl
    (c.in_ok-found.ensures.unwanted c.if-not-found.true)

pub word_of-requires-clause-number : goal.word_of-requires-clause-number
word_of-requires-clause-number c = omega (arith, c.len-last.ensures, c.search.new.arrivals.ok.0, ap length c.deref.ensures.value)

pub word_of-requires-clause-earlier : goal.word_of-requires-clause-earlier
word_of-requires-clause-earlier c =
    let found = c.in_ok-found.ensures.found c.if-not-found.false in
    let (left, bound, searched) = found.searched in
    subst (λ (l : List Arrival). (i : ℕ) (e : Arrival) → i < length l → (get_or l i e).from ≤ i) (sym c.deref.ensures.value) searched.traced.earlier

pub get-requires : goal.get-requires
get-requires c =
    let found = c.in_ok-found.ensures.found c.if-not-found.false in
    let (left, bound, searched) = found.searched in
    omega (arith, c.len-last.ensures, c.search.new.arrivals.ok.0, searched.one_each)

pub returns-clause-first : goal.returns-clause-first
returns-clause-first c =
    let pair = c.args.both.now in
    let sets = c.search.new.sets in
    let arrivals = c.search.new.arrivals.items in
    let found = c.in_ok-found.ensures.found c.if-not-found.false in
    let (left, bound, searched) = found.searched in
    let at : c.len-last.result ≡ length sets - 1 = omega (arith, c.len-last.ensures, c.search.new.arrivals.ok.0, searched.one_each) in
    let within : c.len-last.result < length sets = omega (arith, at, searched.one_each) in
    let here : IsSoughtSet c.args.sought pair (get_or sets c.len-last.result []) = subst (λ n. IsSoughtSet c.args.sought pair (get_or sets n [])) (sym at) found.last.here in
    let spelled : c.in_ok-word.word ≡ get_or searched.words c.len-last.result [] =
    c.in_ok-word.ensures searched.words (subst (AreTraced searched.words) (sym {b = arrivals} c.deref.ensures.value) searched.traced) in
    subst (First (Differs c.args.sought pair.first pair.second)) (sym spelled)
    (first_sought c.args.sought pair c.requires.paired sets arrivals left bound searched c.len-last.result within (λ i less. found.last.before i (omega (arith, less, at, searched.one_each))) here)

pub returns-clause-side : goal.returns-clause-side
returns-clause-side c =
    let pair = c.args.both.now in
    let sets = c.search.new.sets in
    let arrivals = c.search.new.arrivals.items in
    let found = c.in_ok-found.ensures.found c.if-not-found.false in
    let (left, bound, searched) = found.searched in
    let at : c.len-last.result ≡ length sets - 1 = omega (arith, c.len-last.ensures, c.search.new.arrivals.ok.0, searched.one_each) in
    let within : c.len-last.result < length sets = omega (arith, at, searched.one_each) in
    let set : List ℕ = get_or sets c.len-last.result [] in
    let here : IsSoughtSet c.args.sought pair set = subst (λ n. IsSoughtSet c.args.sought pair (get_or sets n [])) (sym at) found.last.here in
    let spelled : c.in_ok-word.word ≡ get_or searched.words c.len-last.result [] =
    c.in_ok-word.ensures searched.words (subst (AreTraced searched.words) (sym {b = arrivals} c.deref.ensures.value) searched.traced) in
    subst (λ word. IsOnSide pair.first pair.second word c.side_of-side.result) (sym spelled)
    (side_of_first c.args.sought pair c.requires.paired sets arrivals left bound searched c.len-last.result within (λ i less. found.last.before i (omega (arith, less, at, searched.one_each)))
    c.side_of-side.result here (subst (λ s. c.side_of-side.result ≡ which.First → HasFinalFrom pair.first 0 s) c.get.ensures c.side_of-side.ensures.first)
    (subst (λ s. c.side_of-side.result ≡ which.Second → ¬ HasFinalFrom pair.first 0 s) c.get.ensures c.side_of-side.ensures.second))
