use Rattle.std.proofs.Common.{◌≡◌, ◌≢◌, ◌≤◌, ℕ, ◌+◌, List, [], ◌∷◌, ◌++◌, None, Some, refl, sym, ap, subst, ◌∙◌, rules, arith}
use Rattle.rela_certfile.specs.declared.error.CertificateError.TheVariants.{Broken}
use Rattle.rela_certfile.specs.Breaks.{BreaksAt}
use Rattle.rela_certfile.specs.Layout.{Layout}
use Rattle.rela_certfile.specs.Listed.{AreListed}
use Rattle.rela_certfile.specs.Text.{last_line, text_of}
use Rattle.rela_certfile.proofs.Breaking.{breaks_by_end, breaks_first, breaks_line, breaks_missing, goes_on, read_closes, text_whole, refused_item}
use Rattle.rela_certfile.proofs.Gathered.{held}
use Rattle.rela_certfile.proofs.Lookups.{held_again, held_found}
use Rattle.rela_certfile.proofs.Progress.{Read, read_few, read_more, read_words}
use Rattle.rela_certfile.proofs.Reading.{tells}
use Rattle.rela_certfile.proofs.Rests.{rest_of}
use Rattle.rela_certfile.proofs.parsing.parse.Goals as goal

-- the line of the error is the one that is told
named : (l : Layout) (text : List ℕ) (n : ℕ) → BreaksAt l text n → (line : ℕ) → Broken n ≡ Broken line → BreaksAt l text line
named l text n breaks line same = let is : n ≡ line = cc in subst (λ k. BreaksAt l text k) is breaks

pub loop-next-init : goal.loop-next-init
loop-next-init c = (
  [],
  record {
    cut = c.in-Some.ensures;
    runs = tt;
    reached = c.start-state.ensures;
    counted = refl;
    gathered = c.new-builder.ensures;
  },
)

pub returns-in_default-clause-broken : goal.returns-in_default-clause-broken
returns-in_default-clause-broken c =
    named c.args.layout.now c.args.text.now 1 (breaks_first c.args.layout.now c.args.text.now c.in_default.ensures)

pub returns-in-Some-broken_by_end-clause-broken : goal.returns-in-Some-broken_by_end-clause-broken
returns-in-Some-broken_by_end-clause-broken c =
    let read = c.loop-next.invariant in
    let ends : c.in-Some-cut_at.next.now ≡ last_line = search rules in
    named c.args.layout.now c.args.text.now c.in-Some-broken_by_end.line
    (breaks_by_end c.args.layout.now c.args.text.now c.loop-next.rest.now _ _ c.loop-next.line c.in-Some-broken_by_end.line c.loop-next.state c.loop-next.builder read.0 c.is_layout.ensures c.requires read.1 c.in-Some-cut_at.ensures ends
    c.in-Some-broken_by_end.ensures.whole c.in-Some-broken_by_end.ensures.missing c.in-Some-broken_by_end.ensures.more)

pub broken_by_end-requires : goal.broken_by_end-requires
broken_by_end-requires c =
    let read = c.loop-next.invariant in
    omega (arith, c.requires, read.1.counted, read_few _ _ _ _ _ _ read.0 read.1)

pub new-requires : goal.new-requires
new-requires c =
    let read = c.loop-next.invariant in
    let ended = c.in_default-broken_by_end.ensures.whole.0 refl in
    let none : c.loop-next.state.heads ≤ 0 = omega (arith, ended.0) in
    held_found (rest_of read.0).rows _ _ _ _
    (held c.args.layout.now read.0 c.loop-next.builder
    (read_closes c.args.layout.now c.args.text.now c.loop-next.rest.now c.loop-next.line c.loop-next.state c.loop-next.builder read.0 read.1 none)
    read.1.gathered
    (omega (arith, c.requires, read_few _ _ _ _ _ _ read.0 read.1)))

pub returns-then-eq-clause-listed : goal.returns-then-eq-clause-listed
returns-then-eq-clause-listed c =
    let read = c.loop-next.invariant in
    let ended = c.in_default-broken_by_end.ensures.whole.0 refl in
    let none : c.loop-next.state.heads ≤ 0 = omega (arith, ended.0) in
    let closes = read_closes c.args.layout.now c.args.text.now c.loop-next.rest.now c.loop-next.line c.loop-next.state c.loop-next.builder read.0 read.1 none in
    let holds = held c.args.layout.now read.0 c.loop-next.builder closes read.1.gathered (omega (arith, c.requires, read_few _ _ _ _ _ _ read.0 read.1)) in
    subst (λ rows. AreListed c.args.layout.now rows) (sym (c.new.ensures ∙ held_again (rest_of read.0).rows _ _ _ _ holds)) (tells c.args.layout.now read.0 closes).listed

pub returns-then-eq-clause-whole : goal.returns-then-eq-clause-whole
returns-then-eq-clause-whole c =
    let read = c.loop-next.invariant in
    let ended = c.in_default-broken_by_end.ensures.whole.0 refl in
    let none : c.loop-next.state.heads ≤ 0 = omega (arith, ended.0) in
    let closes = read_closes c.args.layout.now c.args.text.now c.loop-next.rest.now c.loop-next.line c.loop-next.state c.loop-next.builder read.0 read.1 none in
    let holds = held c.args.layout.now read.0 c.loop-next.builder closes read.1.gathered (omega (arith, c.requires, read_few _ _ _ _ _ _ read.0 read.1)) in
    let ends : c.in-Some-cut_at.next.now ≡ last_line = search rules in
    text_whole c.args.layout.now c.args.text.now c.loop-next.rest.now _ _ c.loop-next.line c.loop-next.state c.loop-next.builder read.0 read.1 c.in-Some-cut_at.ensures ends none ended.1
    ∙ ap (text_of c.args.layout.now) (sym (c.new.ensures ∙ held_again (rest_of read.0).rows _ _ _ _ holds))

pub item_of-requires : goal.item_of-requires
item_of-requires c =
    let read = c.loop-next.invariant in
    read_words c.args.layout.now c.args.text.now c.loop-next.rest.now c.loop-next.line c.loop-next.state c.loop-next.builder read.0 c.is_layout.ensures read.1 c.requires

pub returns-in_default-item_of-clause-broken : goal.returns-in_default-item_of-clause-broken
returns-in_default-item_of-clause-broken c =
    let read = c.loop-next.invariant in
    let other : c.in-Some-cut_at.next.now ≢ last_line = search rules in
    named c.args.layout.now c.args.text.now c.loop-next.line
    (breaks_line c.args.layout.now c.args.text.now c.loop-next.rest.now _ _ c.loop-next.line c.loop-next.state c.loop-next.builder read.0 c.is_layout.ensures c.requires read.1 c.in-Some-cut_at.ensures
    (refused_item c.args.layout.now read.0 c.loop-next.state _ read.1.reached other
    (λ item says. let some : None ≡ Some item = (c.in_default-item_of.ensures item).1 says in cc)))

pub after-state-requires-clause-few : goal.after-state-requires-clause-few
after-state-requires-clause-few c =
    let read = c.loop-next.invariant in
    read_words c.args.layout.now c.args.text.now c.loop-next.rest.now c.loop-next.line c.loop-next.state c.loop-next.builder read.0 c.is_layout.ensures read.1 c.requires

pub overflow_add-line : goal.overflow_add-line
overflow_add-line c =
    let read = c.loop-next.invariant in
    omega (arith, read.1.counted, read_few _ _ _ _ _ _ read.0 read.1)

pub loop-next-preserved : goal.loop-next-preserved
loop-next-preserved c =
    let read = c.loop-next.invariant in
    let says = (c.in-Some-item_of.ensures c.in-Some-item_of.item).0 refl in (
      read.0 ++ c.in-Some-item_of.item ∷ [],
      subst (λ state. Read c.args.layout.now c.args.text.now c.in-Some-cut_at.others.now (c.loop-next.line + 1) state c.push.new.self (read.0 ++ c.in-Some-item_of.item ∷ [])) (sym c.after-state.ensures)
          (read_more c.args.layout.now c.args.text.now c.loop-next.rest.now _ _ c.loop-next.line c.loop-next.state c.loop-next.builder c.push.new.self read.0 c.in-Some-item_of.item read.1 c.in-Some-cut_at.ensures.joined says.0 says.1 c.in_ok-push.ensures),
    )

pub returns-clause-broken : goal.returns-clause-broken
returns-clause-broken c =
    let read = c.loop-next.invariant in
    named c.args.layout.now c.args.text.now c.loop-next.line
    (breaks_missing c.args.layout.now c.args.text.now c.loop-next.rest.now c.loop-next.line c.loop-next.state c.loop-next.builder read.0 c.is_layout.ensures c.requires read.1 c.in_default-cut_at.ensures)

pub returns-in_err-push-clause-memory : goal.returns-in_err-push-clause-memory
returns-in_err-push-clause-memory c = λ _.
    let read = c.loop-next.invariant in
    let says = (c.in-Some-item_of.ensures c.in-Some-item_of.item).0 refl in
    goes_on c.args.layout.now c.args.text.now c.loop-next.rest.now _ _ c.loop-next.line c.loop-next.state c.loop-next.builder read.0 c.in-Some-item_of.item read.1 c.in-Some-cut_at.ensures.joined says.0 says.1
