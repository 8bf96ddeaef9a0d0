use Rattle.std.proofs.Common.{◌≡◌, ◌∙◌, ◌<◌, ◌≤◌, ◌+◌, ◌/◌, ℕ, false, true, List, [], Bor, get_or, length, map, refl, sym, subst, ⊎_elim, arith}
use Rattle.std.proofs.lemmas.Bool.{cases_lt}
use Rattle.std.proofs.lemmas.List.{get_or-map, length-map}
use Rattle.rela_certfile.specs.declared.rows.Step.{Step}
use Rattle.rela_cert.proofs.Halves.{each_again, repeated}
use Rattle.rela_cert.proofs.SameBlocks.{blocks_differ, blocks_equal}
use Rattle.rela_cert.proofs.repeated.are_repeated.Goals as goal

abbrev Block : Type 0
Block = Bor (List Step)

abbrev none : Block
none = record { ref_ptr = (0, 0); now = [] }

abbrev shown : List Block → List (List Step)
shown blocks = map (λ block. block.now) blocks

at : (blocks : List Block) (k : ℕ) (d : List Step) → k < length blocks → get_or (shown blocks) k d ≡ (get_or blocks k none).now
at blocks k d below = get_or-map (λ (block : Block). block.now) blocks k none d below

long : (blocks : List Block) → length (shown blocks) ≡ length blocks
long blocks = length-map blocks (λ (block : Block). block.now)

pub returns-then-ne : goal.returns-then-ne
returns-then-ne c = (
  λ t. let no : false ≡ true = t in cc,
  λ twice.
      let blocks = c.args.blocks.now in
      let k = c.loop-k.k in
      let half = length blocks / 2 in
      let whole : half + half ≡ length blocks = c.if-half-blocks.false in
      let again : get_or (shown blocks) k [] ≡ get_or (shown blocks) (half + k) [] =
      each_again (shown blocks) [] half (whole ∙ sym (long blocks)) twice.0 twice.1 k c.loop-k-test.true in
      absurd (blocks_differ (get_or blocks k none).now (get_or blocks (half + k) none).now c.ne.result c.ne.ensures c.if-ne.true
      (sym (at blocks k [] (omega (arith, c.loop-k-test.true, whole))) ∙ (again ∙ at blocks (half + k) [] (omega (arith, c.loop-k-test.true, whole))))),
)

pub loop-k-preserved : goal.loop-k-preserved
loop-k-preserved c j d below =
    let blocks = c.args.blocks.now in
    let k = c.loop-k.k in
    let half = length blocks / 2 in
    let whole : half + half ≡ length blocks = c.if-half-blocks.false in
    let equal : (get_or blocks k none).now ≡ (get_or blocks (half + k) none).now =
    blocks_equal (get_or blocks k none).now (get_or blocks (half + k) none).now c.ne.result c.ne.ensures c.if-ne.false in
    let last : get_or (shown blocks) k d ≡ get_or (shown blocks) (half + k) d =
    at blocks k d (omega (arith, c.loop-k-test.true, whole)) ∙ (equal ∙ sym (at blocks (half + k) d (omega (arith, c.loop-k-test.true, whole)))) in
    ⊎_elim
    (λ (before : j < k). c.loop-k.invariant j d before)
    (λ (past : k ≤ j).
    let same : k ≡ j = omega (arith, below, past) in
    subst (λ (n : ℕ). get_or (shown blocks) n d ≡ get_or (shown blocks) (half + n) d) same last)
    (cases_lt j k)

pub returns : goal.returns
returns c =
    let blocks = c.args.blocks.now in
    let half = length blocks / 2 in (
      λ yes. repeated (shown blocks) [] half (c.if-half-blocks.false ∙ sym (long blocks)) (λ j d below. c.loop-k.invariant j d (omega (arith, below, c.loop-k-test.false))),
      λ twice. refl,
    )
