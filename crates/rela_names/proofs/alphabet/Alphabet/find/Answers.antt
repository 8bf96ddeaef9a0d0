use Rattle.std.proofs.Common.{◌≢◌, rules}
use Rattle.std.specs.List.{All}
use Rattle.std.proofs.lemmas.Fn.{always_returns_same}
use Rattle.rela_names.specs.Name.{bytes_cmp}
use Rattle.rela_names.proofs.Ascending.{searchable, found_at, found_exactly, found_nowhere, nowhere}
use Rattle.rela_names.proofs.alphabet.Alphabet.find.Goals as goal

pub returns-in-Ok-clause-found : goal.returns-in-Ok-clause-found
returns-in-Ok-clause-found c =
    let by_name =
    c.in-Ok.ensures.position (λ other. bytes_cmp other c.args.name.now) (always_returns_same _ _ _ (λ a r g called. search rules)) in
    let found = found_at c.deref.result.now c.args.name.now c.in-Ok.at c.in-Ok.ensures.bound by_name in
    rw (← c.self.view_is)
    (found_exactly c.self.inside.names.items c.args.name.now c.in-Ok.at c.self.invariant.ascending (rw (← c.deref.ensures.value) found))

-- no location has the name
absent : (c : goal.In-Err) → All (λ other. other ≢ c.args.name.now) c.args.self.now
absent c =
    let by_name =
    c.in-Err.ensures.position (λ other. bytes_cmp other c.args.name.now) (always_returns_same _ _ _ (λ a r g called. search rules)) in
    let rises = searchable c.self.inside.names.items c.args.name.now c.self.invariant.ascending in
    let nowhere = found_nowhere c.deref.result.now c.args.name.now c.in-Err.field-0 (by_name (rw c.deref.ensures.value rises)) in
    rw (← c.self.view_is, ← c.deref.ensures.value) nowhere

pub returns-in-Err-clause-found : goal.returns-in-Err-clause-found
returns-in-Err-clause-found c s = (λ e. cc, λ e. absurd (nowhere c.args.self.now c.args.name.now (absent c) s e))

pub returns-in-Err-clause-absent : goal.returns-in-Err-clause-absent
returns-in-Err-clause-absent c = absent c
