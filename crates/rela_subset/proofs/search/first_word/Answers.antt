use Rattle.std.proofs.Common.{[], length, refl, subst, sym, arith}
use Rattle.rela_names.specs.Shortlex.{First, IsBefore}
use Rattle.rela_subset.specs.Searching.{AreTraced}
use Rattle.rela_subset.specs.Subsets.{IsWantedWord}
use Rattle.rela_subset.proofs.Standing.{before_first, is_first, none_first}
use Rattle.rela_subset.proofs.search.first_word.Goals as goal

pub returns-in-Some-clause-first : goal.returns-in-Some-clause-first
returns-in-Some-clause-first g c =
    let over = g.L.LabelSet.letters c.args.over.now in
    let wants = g.W.Wanted.wants c.args.wanted.now in
    let (first, (left, rest, searched)) = rw c.in-Some.is at c.in_ok-found.ensures.found in
    let spelled = c.in_ok-word_of-in-Some.ensures searched.words (subst (AreTraced searched.words) (sym {b = c.search_from_start.new.arrivals.items} c.deref.ensures.value) searched.traced) in
    subst (First (IsWantedWord c.args.a.now over wants)) (sym spelled)
    (is_first (record { irreflexive = c.shortlex_is_irreflexive.ensures; transitive = c.shortlex_is_transitive.ensures }) c.args.a.now over rest c.search_from_start.new.sets searched.words left searched.found searched.out wants c.in-Some.number first)

pub returns-in-Some-clause-before : goal.returns-in-Some-clause-before
returns-in-Some-clause-before g c = λ v read before.
    let over = g.L.LabelSet.letters c.args.over.now in
    let wants = g.W.Wanted.wants c.args.wanted.now in
    let (first, (left, rest, searched)) = rw c.in-Some.is at c.in_ok-found.ensures.found in
    let spelled = c.in_ok-word_of-in-Some.ensures searched.words (subst (AreTraced searched.words) (sym {b = c.search_from_start.new.arrivals.items} c.deref.ensures.value) searched.traced) in
    before_first (record { irreflexive = c.shortlex_is_irreflexive.ensures; transitive = c.shortlex_is_transitive.ensures }) c.args.a.now over rest c.search_from_start.new.sets searched.words left searched.found searched.out wants c.in-Some.number first v read (subst (IsBefore v) spelled before)

pub returns-clause-none : goal.returns-clause-none
returns-clause-none g c =
    let over = g.L.LabelSet.letters c.args.over.now in
    let wants = g.W.Wanted.wants c.args.wanted.now in
    let (unwanted, searched) = rw c.in-None.is at c.in_ok-found.ensures.none in
    none_first (record { irreflexive = c.shortlex_is_irreflexive.ensures; transitive = c.shortlex_is_transitive.ensures }) c.args.a.now over [] c.search_from_start.new.sets searched.words (length c.search_from_start.new.sets) searched.found searched.out wants (omega arith) (λ k. refl) unwanted
