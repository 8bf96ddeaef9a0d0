use Rattle.std.proofs.Common.{◌≡◌, ◌∙◌, Bor, List, ap, map, refl, sym, subst}
use Rattle.std.specs.List.{All}
use Rattle.rela_expand.specs.Listed.{ListsPathSymbols}
use Rattle.rela_plan.specs.Alike.{AreAlike}
use Rattle.rela_same_checks.specs.SameChecks.{AreAskedAt}
use Rattle.rela_snapshot.specs.PairsLocated.{ArePairsLocated}
use Rattle.rela_translate.specs.Checked.{Checked as Check}
use Rattle.rela_rows.proofs.SameAsked.{All-among, all_compiled, check_of}
use Rattle.rela_rows.proofs.rows.prepare.Goals as goal

pub compile_all-requires-clause-listed : goal.compile_all-requires-clause-listed
compile_all-requires-clause-listed c =
    subst (λ (asked : List (Bor Check)). All (ListsPathSymbols c.args.alphabet.now) (map (λ (check : Bor Check). check.now) asked)) (sym c.deref.ensures.value)
    (All-among (ListsPathSymbols c.args.alphabet.now) c.args.checks.now (map (λ (check : Bor Check). check.now) c.in_ok-asked.asked.checks.items)
    c.requires.checks.listed c.in_ok-asked.ensures.given)

pub returns : goal.returns
returns c =
    let compiled = c.in_ok-compiled.compiled.items in
    let asked = c.in_ok-asked.asked in
    let checks : map check_of compiled ≡ map (λ (check : Bor Check). check.now) asked.checks.items =
    c.in_ok-compiled.ensures.checks ∙ ap (λ (given : List (Bor Check)). map (λ (check : Bor Check). check.now) given) c.deref.ensures.value in
    record {
      plan = c.in_ok-planned.ensures.planned;
      within = c.in_ok-planned.ensures.within;
      judges = record {
        asked = subst (λ (cs : List Check). AreAskedAt cs c.args.checks.now asked.places.items) (sym checks) c.in_ok-asked.ensures.places;
        locations = c.in_ok-compiled.ensures.locations;
        located =
            all_compiled (λ (check : Check). ArePairsLocated c.args.alphabet.now check.level c.args.pairs.now) c.args.checks.now asked.checks.items
            asked.checks.items compiled compiled c.requires.checks.located c.in_ok-asked.ensures.given refl checks refl;
        alike =
            all_compiled (λ (check : Check). AreAlike check.level c.args.pairs.now c.in_ok-others.others.items) c.args.checks.now asked.checks.items
            asked.checks.items compiled compiled c.in_ok-others.ensures c.in_ok-asked.ensures.given refl checks refl;
      };
      limit = c.in_ok-compiled.ensures.states;
    }
