use Rattle.std.proofs.Common.{◌<◌, sym, subst}
use Rattle.std.specs.List.{All}
use Rattle.std.proofs.lemmas.Bool.{both_ways}
use Rattle.std.proofs.lemmas.Result.{IfOk-weaker}
use Rattle.rela_witness.proofs.OneWord.{related_by_image}
use Rattle.rela_witness.proofs.related.sources_of.Goals as goal

pub returns-then-not-are_letters-clause-language : goal.returns-then-not-are_letters-clause-language
returns-then-not-are_letters-clause-language g c =
    IfOk-weaker c.none.result _ _ (λ nfa none u. (
      λ accepted. absurd (none u accepted),
      λ related.
          let letters = c.related_words_have_letters.ensures.written c.args.transducer.now c.letters-letters.ensures.machine u c.args.v.now related in
          absurd (both_ways c.are_letters.result c.if-not-are_letters.true (c.are_letters.ensures.1 (subst (λ n. All (λ k. k < n) c.args.v.now) (sym c.letters-letters.ensures.letters) letters))),
    )) c.none.ensures.language

pub returns-in-Ok-clause-language : goal.returns-in-Ok-clause-language
returns-in-Ok-clause-language g c = λ u.
    let written = related_by_image c.in_ok-inverse.inverse c.in_ok-word.word c.in-Ok.sources c.args.v.now u c.in_ok-word.ensures.language c.in-Ok.ensures.language in
    let turned = c.in_ok-inverse.ensures.relation (λ k. k) c.args.v.now u in
    (λ accepted. turned.0 (written.0 accepted), λ related. written.1 (turned.1 related))
