use Rattle.std.proofs.Common.{◌≡◌, ◌∙◌, ◌≤◌, length, map, sym, arith}
use Rattle.std.specs.Option.{unwrap_or}
use Rattle.std.proofs.lemmas.Result.{IfErr-weaker}
use Rattle.rela_translate.specs.Terms.{after_of, before_of}
use Rattle.rela_translate.specs.Zones.{path_symbols}
use Rattle.rela_cert.specs.RowNames.{name_of}
use Rattle.rela_cert.specs.RowParts.{symbols_at}
use Rattle.rela_cert.proofs.MappedWords.{all_in_order}
use Rattle.rela_cert.proofs.Options.{ok_weaker, three_ok}
use Rattle.rela_cert.proofs.RelationStops.{RefusesBy, made_of, named_of, refused, stopped_of, too_large}
use Rattle.rela_cert.proofs.check_relations.check_relations.Goals as goal

pub invariant_of-checking : goal.invariant_of-checking
invariant_of-checking c =
    let n = length c.args.row.now.alphabet.now in
    let symbols : length c.args.parts.now.blocks ≡ symbols_at c.args.row.now = c.requires.parts.blocks.letters.symbols in
    let less : path_symbols n ≤ length c.args.parts.now.blocks = omega (arith, symbols) in
    record { steps = all_in_order c.args.parts.now.blocks (path_symbols n) (length c.args.parts.now.blocks) c.args.complements.now less c.requires.complements }

pub both_relations-requires-clause-before_alone : goal.both_relations-requires-clause-before_alone
both_relations-requires-clause-before_alone c =
    let check = c.args.row.now.check.now in
    let n = length c.args.row.now.alphabet.now in
    named_of (Unit {0}) check n c.args.parts.now.blocks c.in_ok-letters.letters c.in_ok-letters.ensures c.args.parts.now.terms.before (before_of n check.body)
    c.requires.parts.before c.requires.parts.blocks.before

pub both_relations-requires-clause-after_alone : goal.both_relations-requires-clause-after_alone
both_relations-requires-clause-after_alone c =
    let check = c.args.row.now.check.now in
    let n = length c.args.row.now.alphabet.now in
    named_of (Unit {0}) check n c.args.parts.now.blocks c.in_ok-letters.letters c.in_ok-letters.ensures c.args.parts.now.terms.after (after_of n check.body)
    c.requires.parts.after c.requires.parts.blocks.after

pub both_relations-requires-clause-alone : goal.both_relations-requires-clause-alone
both_relations-requires-clause-alone c alone =
    let n = length c.args.row.now.alphabet.now in
    c.requires.parts.before ∙ (c.one_serves-alone.ensures.terms alone n ∙ sym c.requires.parts.after)

pub returns-clause-made : goal.returns-clause-made
returns-clause-made c =
    let check = c.args.row.now.check.now in
    let n = length c.args.row.now.alphabet.now in
    let blocks = c.args.parts.now.blocks in
    let t = c.args.parts.now.terms in
    three_ok _ _ _ _ c.both_relations.result
    (λ relations before after alone. record {
      before = made_of (Unit {0}) check n blocks c.in_ok-letters.letters c.in_ok-letters.ensures t.before (before_of n check.body) relations.before c.requires.parts.before before;
      after = made_of (Unit {0}) check n blocks c.in_ok-letters.letters c.in_ok-letters.ensures t.after (after_of n check.body) (unwrap_or relations.after relations.before)
          c.requires.parts.after after;
      alone = λ none. c.one_serves-alone.ensures.terms (alone.0 none) n;
    })
    c.both_relations.ensures.before c.both_relations.ensures.after c.both_relations.ensures.alone

pub returns-clause-alone : goal.returns-clause-alone
returns-clause-alone c =
    ok_weaker _ _ c.both_relations.result (λ relations alone none. c.one_serves-alone.ensures.blocks (alone.0 none)) c.both_relations.ensures.alone

pub returns-clause-limit : goal.returns-clause-limit
returns-clause-limit c =
    let row = c.args.row.now in
    let check = row.check.now in
    let n = length row.alphabet.now in
    let blocks = c.args.parts.now.blocks in
    let t = c.args.parts.now.terms in
    let listed = map (λ block. block.now) c.args.complements.now in
    IfErr-weaker c.both_relations.result _ _
    (λ e stopped limit. too_large (Unit {0}) (name_of row) blocks c.requires.parts.blocks.letters 4000000 listed
    (c.relations_pass_on.ensures.before (name_of row)) (c.relations_pass_on.ensures.after (name_of row)) e
    (stopped_of (Unit {0}) check n blocks c.in_ok-letters.letters c.in_ok-letters.ensures (RefusesBy blocks listed) 4000000 t.before t.after (before_of n check.body) (after_of n check.body) e
    c.requires.parts.before c.requires.parts.after stopped) limit)
    c.both_relations.ensures.stopped

pub returns-clause-refused : goal.returns-clause-refused
returns-clause-refused c =
    let row = c.args.row.now in
    let check = row.check.now in
    let n = length row.alphabet.now in
    let blocks = c.args.parts.now.blocks in
    let t = c.args.parts.now.terms in
    let listed = map (λ block. block.now) c.args.complements.now in
    IfErr-weaker c.both_relations.result _ _
    (λ e stopped number is. refused (Unit {0}) (name_of row) blocks c.requires.parts.blocks.letters 4000000 listed (c.parts_agree.ensures (name_of row)) e
    (stopped_of (Unit {0}) check n blocks c.in_ok-letters.letters c.in_ok-letters.ensures (RefusesBy blocks listed) 4000000 t.before t.after (before_of n check.body) (after_of n check.body) e
    c.requires.parts.before c.requires.parts.after stopped) number is)
    c.both_relations.ensures.stopped
