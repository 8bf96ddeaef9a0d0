-- An automaton by its arrows.
use Rattle.std.proofs.Common.{◌≡◌, ℕ, ◌<◌, Bool, List, [], length, get_or, map, sym, ap, ◌∙◌, subst, arith}
use Rattle.std.specs.List.{All, Contains}
use Rattle.std.proofs.lemmas.List.{length-map}
use Rattle.std.proofs.lemmas.List.Elements.{All-contains, All-from_get_or, All-get_or}
use Rattle.rela_nfa.specs.Automaton.{Automaton, IsAutomaton, IsMove, Move}
use Rattle.rela_reduce.specs.Numbered.{IsArrow, IsPlain, edges_by, labelled}
use Rattle.rela_reduce.specs.declared.arrow.Arrow.{Arrow}
use Rattle.rela_reduce.proofs.Labelling.{IsKnown}
use Rattle.rela_reduce.proofs.Lists.{all_from_listed, contains_mapped, list_of_mapped}

-- the edge of an arrow is one of the automaton's
pub arrow_move : (a : Automaton) → IsAutomaton a → (labels : List (List Bool)) (lists : List (List Arrow)) → edges_by labels lists ≡ a.edges → (i : ℕ) → i < length lists
    → (arrow : Arrow) → Contains (get_or lists i []) arrow → IsMove a.letters (length a.finals) (labelled labels arrow)
arrow_move a ok labels lists same i within arrow listed =
    let count : length lists ≡ length a.edges = sym (length-map lists (map (labelled labels))) ∙ ap length same in
    let fits : All (IsMove a.letters (length a.finals)) (get_or a.edges i []) = All-get_or (All (IsMove a.letters (length a.finals))) a.edges i [] (omega arith) ok.moves in
    All-contains (IsMove a.letters (length a.finals)) (get_or a.edges i []) (labelled labels arrow) fits
    (subst (λ (ms : List Move). Contains ms (labelled labels arrow)) (sym (list_of_mapped (labelled labels) lists i) ∙ ap (λ (mss : List (List Move)). get_or mss i []) same)
    (contains_mapped (labelled labels) (get_or lists i []) arrow listed))

pub plain_of : (a : Automaton) → IsAutomaton a → (labels : List (List Bool)) (lists : List (List Arrow)) (count start : ℕ) (finals : List Bool) → edges_by labels lists ≡ a.edges
    → All (All (IsKnown (length labels))) lists → count ≡ length labels → start < length a.finals → finals ≡ a.finals
    → IsPlain (record { labels = count; start = start; finals = finals; arrows = lists })
plain_of a ok labels lists count start finals same known counted starts finals_are = record {
  each = sym (length-map lists (map (labelled labels))) ∙ ap length same ∙ ok.each ∙ sym (ap length finals_are);
  starts = subst (λ (fs : List Bool). start < length fs) (sym finals_are) starts;
  within =
      All-from_get_or (All (IsArrow count (length finals))) lists [] (λ i within. all_from_listed (IsArrow count (length finals)) (get_or lists i []) (λ arrow listed. record {
        known = λ k is. subst (λ (n : ℕ). k < n) (sym counted) (All-contains (IsKnown (length labels)) (get_or lists i []) arrow (All-get_or (All (IsKnown (length labels))) lists i [] within known) listed k is);
        leads = subst (λ (fs : List Bool). arrow.to < length fs) (sym finals_are) (arrow_move a ok labels lists same i within arrow listed).leads;
      }));
}
