use Rattle.std.proofs.Common.{◌≡◌, ◌≢◌, ◌↔◌, ℕ, List, None, Some, codes, rules, refl, arith}
use Rattle.rela_certfile.specs.declared.rows.Step.{Step}
use Rattle.rela_certfile.specs.Text.{IsWordLine}
use Rattle.rela_certfile.proofs.Exactly.{refused}
use Rattle.rela_certfile.proofs.ItemLines.{Fits}
use Rattle.rela_certfile.proofs.ItemOf.{says_complement, says_images, says_word, says_row, no_other}
use Rattle.rela_certfile.proofs.item.State.item_of.Goals as goal

-- a line that writes no step
unwritten : (line : List ℕ) → ((step : Step) → (None ≡ Some step) ↔ IsWordLine line step) → (step : Step) → IsWordLine line step → ⊥
unwritten line none step is = let some : None ≡ Some step = (none step).1 is in cc

pub returns-then-eq : goal.returns-then-eq
returns-then-eq c =
    let fits : Fits c.args.self = record { words = omega arith; bound = omega arith; path_symbols = omega arith; symbols = omega arith } in
    let same : c.args.line.now ≡ codes "complement" = search rules in
    says_complement c.args.layout.now c.args.self c.args.line.now c.complement.result c.is_layout.ensures fits same c.complement.ensures

pub returns-then-eq-2 : goal.returns-then-eq-2
returns-then-eq-2 c =
    let fits : Fits c.args.self = record { words = omega arith; bound = omega arith; path_symbols = omega arith; symbols = omega arith } in
    let same : c.args.line.now ≡ codes "images" = search rules in
    says_images c.args.layout.now c.args.self c.args.line.now c.images.result c.is_layout.ensures fits same c.images.ensures

pub returns-in-Some : goal.returns-in-Some
returns-in-Some c =
    let fits : Fits c.args.self = record { words = omega arith; bound = omega arith; path_symbols = omega arith; symbols = omega arith } in
    says_word c.args.layout.now c.args.self c.args.line.now c.in-Some.step c.word.result c.is_layout.ensures fits ((c.in-Some.ensures c.in-Some.step).0 refl) c.word.ensures

pub returns-then-self-gt0 : goal.returns-then-self-gt0
returns-then-self-gt0 c =
    let fits : Fits c.args.self = record { words = omega arith; bound = omega arith; path_symbols = omega arith; symbols = omega arith } in
    let first : c.args.line.now ≢ codes "complement" = search rules in
    let second : c.args.line.now ≢ codes "images" = search rules in
    refused _ _ refl (no_other c.args.layout.now c.args.self c.args.line.now fits first second (unwritten c.args.line.now c.in_default.ensures) (λ place none from row. omega arith))

pub returns-in_err-place : goal.returns-in_err-place
returns-in_err-place c =
    let fits : Fits c.args.self = record { words = omega arith; bound = omega arith; path_symbols = omega arith; symbols = omega arith } in
    let first : c.args.line.now ≢ codes "complement" = search rules in
    let second : c.args.line.now ≢ codes "images" = search rules in
    refused _ _ c.from_residual.ensures (no_other c.args.layout.now c.args.self c.args.line.now fits first second (unwritten c.args.line.now c.in_default.ensures) (λ place none from row. c.in_err-place.ensures place from row))

pub returns : goal.returns
returns c =
    let fits : Fits c.args.self = record { words = omega arith; bound = omega arith; path_symbols = omega arith; symbols = omega arith } in
    says_row c.args.layout.now c.args.self c.args.line.now c.in_ok-place.place c.is_layout.ensures fits (omega arith) c.in_ok-place.ensures.0 c.in_ok-place.ensures.1
