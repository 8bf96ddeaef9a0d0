use Rattle.std.proofs.Common.{Option, List, ℕ, subst}
use Rattle.std.specs.Prelude.{IfNone, IfSome}
use Rattle.rela_letter_nfa.specs.Differences.{Differs}
use Rattle.rela_letter_nfa.specs.Runs.{Accepts}
use Rattle.rela_letter_nfa.specs.declared.difference.Sought.TheVariants.{FirstAlone}
use Rattle.rela_names.specs.Shortlex.{First}
use Rattle.rela_letter_image.specs.Coarse.{coarse_of}
use Rattle.rela_letter_source.specs.Sources.{IsSourceOf}
use Rattle.rela_letter_source.proofs.SourceWords.{first_of_sources, none_of_sources}
use Rattle.rela_letter_source.proofs.source.source_within.Goals as goal

pub returns-clause-first : goal.returns-clause-first
returns-clause-first c =
    let a = c.in_ok-sources.sources in
    let b = c.in_ok-nothing.nothing in
    let t = c.args.relation.now in
    let word = c.in-Some.difference.word in
    let first : First (Differs FirstAlone a b) word =
    subst (λ (found : Option _). IfSome found (λ difference. First (Differs FirstAlone a b) difference.word)) c.in-Some.is c.in_ok-found.ensures.first in
    first_of_sources (Accepts a) (Accepts b) (IsSourceOf (coarse_of t.letters c.args.coarse.now) c.args.paths.now t c.args.word.now) word c.in_ok-sources.ensures c.in_ok-nothing.ensures first

pub returns-in_default-clause-none : goal.returns-in_default-clause-none
returns-in_default-clause-none c =
    let a = c.in_ok-sources.sources in
    let b = c.in_ok-nothing.nothing in
    let t = c.args.relation.now in
    let agreed : (u : List ℕ) → Accepts a u → Accepts b u =
    subst (λ (found : Option _). IfNone found ((u : List ℕ) → Accepts a u → Accepts b u)) c.in_default.is c.in_ok-found.ensures.none in
    none_of_sources (Accepts a) (Accepts b) (IsSourceOf (coarse_of t.letters c.args.coarse.now) c.args.paths.now t c.args.word.now) c.in_ok-sources.ensures c.in_ok-nothing.ensures agreed
