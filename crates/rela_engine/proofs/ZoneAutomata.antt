-- The minimal automaton of a check's zone.
use Rattle.std.proofs.Common.{◌≡◌, ◌∙◌, ℕ, ◌+◌, ◌<◌, ◌≤◌, ◌↔◌, Bool, List, length, map, sym, subst, arith}
use Rattle.rela_build.specs.Lettering.{IsAlone, Lettering}
use Rattle.rela_build.specs.Made.{IsMade}
use Rattle.rela_build.specs.Named.{Names}
use Rattle.rela_build.specs.PathSets.{Paths, no_paths, scene_of}
use Rattle.rela_build.specs.Reading.{read_by, HoldsJust}
use Rattle.rela_minimise.specs.Classes.{IsMinimal}
use Rattle.rela_names.specs.Alphabet.{path_symbols}
use Rattle.rela_nfa.specs.Automaton.{Automaton}
use Rattle.rela_nfa.specs.Runs.{Accepts}
use Rattle.rela_rir.specs.Limit.{ForcedInside, ReachedInside}
use Rattle.rela_rir.specs.Meaning.{In}
use Rattle.rela_rir.specs.declared.term.PathTerm.{PathTerm}
use Rattle.rela_rir.specs.declared.term.PathTerm.TheVariants.{Complement}
use Rattle.rela_subset.specs.Deterministic.{Deterministic, IsAccepted, IsByArrival, IsDeterministic, IsOver, IsReachable}
use Rattle.rela_translate.specs.Checked.{Checked, IsCheck}
use Rattle.rela_translate.specs.Settings.{bare}
use Rattle.rela_translate.specs.Terms.{zone_of}
use Rattle.rela_translate.specs.Zones.{Zone}
use Rattle.rela_engine.specs.AutomatonText.{automaton_text}
use Rattle.rela_blocks.specs.Alone.{AreOthersAlone}
use Rattle.rela_blocks.specs.Blocks.{AreBlocks}
use Rattle.rela_blocks.specs.Scenes.{lettering_of}
use Rattle.rela_engine.specs.Spelled.{IsLeastBy, spelled}
use Rattle.rela_engine.specs.Zone.{IsZoneText, ZoneMustPassLimit, ZonePassesLimit}
use Rattle.rela_engine.proofs.CheckLetters.{zone_alone}
use Rattle.rela_engine.proofs.LetterLaws.{over_path}
use Rattle.rela_engine.proofs.SpelledAutomata.{minimal_of}

-- the least automaton of the words that the automaton of a term accepts, over the letters of path symbols
pub least_by : (exactly : Type 0) (l : Lettering) (paths : Paths) (term : PathTerm) (a : Automaton) → IsMade exactly l paths term a
    → (over : List Bool) → HoldsJust l.blocks (λ s. s < l.path_symbols) over → (d : Deterministic) → IsDeterministic d → d.over ≡ over → d.start ≡ 0
    → ((w : List ℕ) → IsAccepted d w ↔ (IsOver over w × Accepts a w)) → IsReachable d → IsMinimal d → IsByArrival d
    → IsLeastBy l.blocks l.path_symbols (In (scene_of l paths).setting term) d
unfolding IsMade
least_by exactly l paths term a made over of_path d ok over_is start language reached minimal arrival = record {
  deterministic = ok;
  over = subst (HoldsJust l.blocks (λ s. s < l.path_symbols)) (sym over_is) of_path;
  start = start;
  language = λ w path.
      (let letters : IsOver over (map (read_by l.blocks) w) = (over_path (read_by l.blocks) over l.path_symbols of_path.holds w).1 path in (
        λ final. (made.language w).0 ((language (map (read_by l.blocks) w)).0 (subst (λ (o : List Bool). IsOver o (map (read_by l.blocks) w)) (sym over_is) letters, final)).1,
        λ is_word. ((language (map (read_by l.blocks) w)).1 (letters, (made.language w).1 is_word)).1,
      ));
  reached = reached;
  minimal = minimal;
  arrival = arrival;
}

-- the letters of the path symbols are as many as those of the automaton of a term
pub path_letters : (exactly : Type 0) (l : Lettering) (paths : Paths) (term : PathTerm) (a : Automaton) → IsMade exactly l paths term a
    → (over : List Bool) → HoldsJust l.blocks (λ s. s < l.path_symbols) over → length over ≡ a.letters
unfolding IsMade
path_letters exactly l paths term a made over of_path = of_path.size ∙ sym made.letters

module _ (check : Checked) (names : List (List ℕ)) (blocks : List ℕ) (are : AreBlocks check (length names) blocks)
    (l : Lettering) (l_is : l ≡ lettering_of check (length names) blocks) (term : PathTerm) (form : term ≡ zone_of (length names) check.body) where
  pub zone_letters : (AreOthersAlone blocks (length names) check.body → Names (IsAlone blocks) (zone_of (length names) check.body)) → IsCheck check → Names (IsAlone l.blocks) term
  zone_letters named is = subst (λ (k : Lettering). Names (IsAlone k.blocks) term) (sym l_is) (zone_alone check (length names) blocks are named is term form)

  pub enough : path_symbols names ≤ length blocks
  enough = omega (arith, are.symbols)

  pub own_over : (d : Deterministic) → IsLeastBy l.blocks l.path_symbols (In (scene_of l no_paths).setting term) d → HoldsJust blocks (λ s. s < path_symbols names) d.over
  own_over d is = subst (λ (k : Lettering). HoldsJust k.blocks (λ s. s < k.path_symbols) d.over) l_is is.over

  pub zone_text_is : (means : (w : List ℕ) → In (bare check.classes (length names)) term w ↔ Zone check.classes (length names) check.body w)
      → (d : Deterministic) → IsLeastBy l.blocks l.path_symbols (In (scene_of l no_paths).setting term) d
      → (text : List ℕ) → text ≡ automaton_text names (spelled blocks (path_symbols names) d) → IsZoneText check names text
  zone_text_is means d is text text_is =
      let n = path_symbols names in
      let by : IsLeastBy blocks n (In (bare check.classes (length names)) term) d =
      subst (λ (k : Lettering). IsLeastBy k.blocks k.path_symbols (In (scene_of k no_paths).setting term) d) l_is is in
      let minimal = minimal_of blocks n d enough by.deterministic by.over are.partition (In (bare check.classes (length names)) term) by in (
        spelled blocks n d,
        record {
          complete = minimal.complete;
          language = λ w path. (
            λ accepted. (means w).0 ((minimal.language w path).0 accepted),
            λ is_word. (minimal.language w path).1 ((means w).1 is_word),
          );
          reached = minimal.reached;
          apart = minimal.apart;
          arrival = minimal.arrival;
        },
        text_is,
      )

  pub zone_within : (limit : ℕ) → ¬ ForcedInside (scene_of l no_paths) (limit + 1) (Complement term) → ¬ ZoneMustPassLimit check (length names) limit
  zone_within limit unforced has =
      unforced (subst (λ (k : Lettering). ForcedInside (scene_of k no_paths) (limit + 1) (Complement term)) (sym l_is)
      (subst (λ (t : PathTerm). ForcedInside (scene_of (lettering_of check (length names) blocks) no_paths) (limit + 1) (Complement t)) (sym form) has))

  pub zone_passes : (limit : ℕ) → ReachedInside (scene_of l no_paths) (limit + 1) (Complement term) → ZonePassesLimit check (length names) limit
  zone_passes limit inside =
      subst (λ (t : PathTerm). ReachedInside (scene_of (lettering_of check (length names) blocks) no_paths) (limit + 1) (Complement t)) form
      (subst (λ (k : Lettering). ReachedInside (scene_of k no_paths) (limit + 1) (Complement term)) l_is inside)
