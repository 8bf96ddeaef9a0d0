use Rattle.std.proofs.Common.{◌≡◌, Err, sym, arith}
use Rattle.rela_lex.specs.declared.error.SpecError.TheVariants.{BadNumber}
use Rattle.rela_spec.proofs.FullTrees.{tree_full}
use Rattle.rela_spec.proofs.Verdicts.{parsed_tree, fault_of, fault_not_spelled, fault_is_syntax, fault_is_deep, fault_is_bad, bad_of, spells_of, syntax_not_text, deep_not_shallow}
use Rattle.rela_spec.proofs.parsing.parse.Goals as goal

pub returns-in_err-file-clause-fault : goal.returns-in_err-file-clause-fault
returns-in_err-file-clause-fault c =
    let e = c.in_err-file.field-0.0 in
    let fault : c.from_residual.result ≡ Err e = grind arith in
    rw fault (fault_of c.prefixes_are_read_exactly.ensures c.args.end c.args.tokens.now e c.in_err-file.ensures.fault)

pub returns-in_err-file-clause-spelled : goal.returns-in_err-file-clause-spelled
returns-in_err-file-clause-spelled c =
    let e = c.in_err-file.field-0.0 in
    let fault : c.from_residual.result ≡ Err e = grind arith in
    rw fault (fault_not_spelled c.args.tokens.now c.args.end e (fault_of c.prefixes_are_read_exactly.ensures c.args.end c.args.tokens.now e c.in_err-file.ensures.fault))

pub returns-in_err-file-clause-syntax : goal.returns-in_err-file-clause-syntax
returns-in_err-file-clause-syntax c =
    let e = c.in_err-file.field-0.0 in
    let fault : c.from_residual.result ≡ Err e = grind arith in
    rw fault (fault_is_syntax c.args.tokens.now c.args.end e (fault_of c.prefixes_are_read_exactly.ensures c.args.end c.args.tokens.now e c.in_err-file.ensures.fault))

pub returns-in_err-file-clause-too_deep : goal.returns-in_err-file-clause-too_deep
returns-in_err-file-clause-too_deep c =
    let e = c.in_err-file.field-0.0 in
    let fault : c.from_residual.result ≡ Err e = grind arith in
    rw fault (fault_is_deep c.args.tokens.now c.args.end e (fault_of c.prefixes_are_read_exactly.ensures c.args.end c.args.tokens.now e c.in_err-file.ensures.fault))

pub returns-in_err-file-clause-bad_number : goal.returns-in_err-file-clause-bad_number
returns-in_err-file-clause-bad_number c =
    let e = c.in_err-file.field-0.0 in
    let fault : c.from_residual.result ≡ Err e = grind arith in
    rw fault (fault_is_bad c.args.tokens.now c.args.end e (fault_of c.prefixes_are_read_exactly.ensures c.args.end c.args.tokens.now e c.in_err-file.ensures.fault))

pub returns-in_err-refuse_bad_number-clause-fault : goal.returns-in_err-refuse_bad_number-clause-fault
returns-in_err-refuse_bad_number-clause-fault c =
    let e = c.in_err-refuse_bad_number.field-0.0 in
    let fault : c.from_residual-in_err-refuse_bad_number.result ≡ Err e = grind arith in
    let bad = c.in_err-refuse_bad_number.ensures.bad in
    let tree = parsed_tree c.prefixes_are_read_exactly.ensures c.args.end c.args.tokens.now c.in_ok-file.file c.in_ok-file.ensures.read in
    rw (fault, bad.2) (bad_of c.args.tokens.now c.in_ok-file.file bad.0 tree bad.1)

pub returns-in_err-refuse_bad_number-clause-spelled : goal.returns-in_err-refuse_bad_number-clause-spelled
returns-in_err-refuse_bad_number-clause-spelled c =
    let e = c.in_err-refuse_bad_number.field-0.0 in
    let fault : c.from_residual-in_err-refuse_bad_number.result ≡ Err e = grind arith in
    let bad = c.in_err-refuse_bad_number.ensures.bad in
    let tree = parsed_tree c.prefixes_are_read_exactly.ensures c.args.end c.args.tokens.now c.in_ok-file.file c.in_ok-file.ensures.read in
    rw (fault, bad.2) (fault_not_spelled c.args.tokens.now c.args.end (BadNumber bad.0) (bad_of c.args.tokens.now c.in_ok-file.file bad.0 tree bad.1))

pub returns-in_err-refuse_bad_number-clause-syntax : goal.returns-in_err-refuse_bad_number-clause-syntax
returns-in_err-refuse_bad_number-clause-syntax c =
    let e = c.in_err-refuse_bad_number.field-0.0 in
    let fault : c.from_residual-in_err-refuse_bad_number.result ≡ Err e = grind arith in
    let bad = c.in_err-refuse_bad_number.ensures.bad in
    let tree = parsed_tree c.prefixes_are_read_exactly.ensures c.args.end c.args.tokens.now c.in_ok-file.file c.in_ok-file.ensures.read in
    rw (fault, bad.2) (fault_is_syntax c.args.tokens.now c.args.end (BadNumber bad.0) (bad_of c.args.tokens.now c.in_ok-file.file bad.0 tree bad.1))

pub returns-in_err-refuse_bad_number-clause-too_deep : goal.returns-in_err-refuse_bad_number-clause-too_deep
returns-in_err-refuse_bad_number-clause-too_deep c =
    let e = c.in_err-refuse_bad_number.field-0.0 in
    let fault : c.from_residual-in_err-refuse_bad_number.result ≡ Err e = grind arith in
    let bad = c.in_err-refuse_bad_number.ensures.bad in
    let tree = parsed_tree c.prefixes_are_read_exactly.ensures c.args.end c.args.tokens.now c.in_ok-file.file c.in_ok-file.ensures.read in
    rw (fault, bad.2) (fault_is_deep c.args.tokens.now c.args.end (BadNumber bad.0) (bad_of c.args.tokens.now c.in_ok-file.file bad.0 tree bad.1))

pub returns-in_err-refuse_bad_number-clause-bad_number : goal.returns-in_err-refuse_bad_number-clause-bad_number
returns-in_err-refuse_bad_number-clause-bad_number c =
    let e = c.in_err-refuse_bad_number.field-0.0 in
    let fault : c.from_residual-in_err-refuse_bad_number.result ≡ Err e = grind arith in
    let bad = c.in_err-refuse_bad_number.ensures.bad in
    let tree = parsed_tree c.prefixes_are_read_exactly.ensures c.args.end c.args.tokens.now c.in_ok-file.file c.in_ok-file.ensures.read in
    rw (fault, bad.2) (fault_is_bad c.args.tokens.now c.args.end (BadNumber bad.0) (bad_of c.args.tokens.now c.in_ok-file.file bad.0 tree bad.1))

pub returns-clause-tree : goal.returns-clause-tree
returns-clause-tree c = spells_of c.args.tokens.now c.in_ok-file.file (parsed_tree c.prefixes_are_read_exactly.ensures c.args.end c.args.tokens.now c.in_ok-file.file c.in_ok-file.ensures.read) c.in_ok-refuse_bad_number.ensures.none

pub returns-clause-spelled : goal.returns-clause-spelled
returns-clause-spelled c tree s = sym ((parsed_tree c.prefixes_are_read_exactly.ensures c.args.end c.args.tokens.now c.in_ok-file.file c.in_ok-file.ensures.read).only tree s.grammar)

pub returns-clause-syntax : goal.returns-clause-syntax
returns-clause-syntax c at s = syntax_not_text c.args.tokens.now c.args.end at c.in_ok-file.file s (parsed_tree c.prefixes_are_read_exactly.ensures c.args.end c.args.tokens.now c.in_ok-file.file c.in_ok-file.ensures.read).grammar

pub returns-clause-too_deep : goal.returns-clause-too_deep
returns-clause-too_deep c at d = deep_not_shallow c.args.tokens.now at d (parsed_tree c.prefixes_are_read_exactly.ensures c.args.end c.args.tokens.now c.in_ok-file.file c.in_ok-file.ensures.read).shallow

pub returns-clause-full : goal.returns-clause-full
returns-clause-full c = tree_full c.args.tokens.now c.in_ok-file.file (parsed_tree c.prefixes_are_read_exactly.ensures c.args.end c.args.tokens.now c.in_ok-file.file c.in_ok-file.ensures.read).grammar
