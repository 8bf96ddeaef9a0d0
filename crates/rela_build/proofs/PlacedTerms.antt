-- What is made of a term has states that stand for its places, and it is made where it has.
use Rattle.std.proofs.Common.{◌≡◌, ℕ, ◌↔◌, List, map, sym, subst}
use Rattle.rela_labels.specs.Partition.{block_count}
use Rattle.rela_nfa.specs.Automaton.{Automaton, IsAutomaton, states}
use Rattle.rela_nfa.specs.Runs.{Accepts}
use Rattle.rela_rir.specs.Meaning.{In, InR}
use Rattle.rela_rir.specs.Places.{Scene, At, AtR}
use Rattle.rela_rir.specs.Tables.{OnPairs, IsExact, IsPlaced, IsPlacedR, IsPlacedWhere, IsPlacedWhereR}
use Rattle.rela_rir.specs.Words.{WordSet, Relation}
use Rattle.rela_rir.specs.declared.term.PathTerm.{PathTerm}
use Rattle.rela_rir.specs.declared.term.RelTerm.{RelTerm}
use Rattle.rela_trans.specs.Machine.{Machine, IsMachine, machine_states}
use Rattle.rela_trans.specs.Runs.{Relates}
use Rattle.rela_build.specs.Lettering.{Lettering}
use Rattle.rela_build.specs.Made.{Leads, LeadsR, IsMade, IsMadeR}
use Rattle.rela_build.specs.PathSets.{Paths, scene_of}
use Rattle.rela_build.specs.Reading.{read_by}

module _ (E : Type 0) (l : Lettering) (paths : Paths) where
  abbrev m : Scene
  m = scene_of l paths

  pub made_letters : (t : PathTerm) (a : Automaton) → IsMade E l paths t a → a.letters ≡ block_count l.blocks
  unfolding IsMade
  made_letters t a made = made.letters

  pub made_letters_r : (t : RelTerm) (a : Machine) → IsMadeR E l paths t a → a.letters ≡ block_count l.blocks
  unfolding IsMadeR
  made_letters_r t a made = made.letters

  pub placed : (t : PathTerm) (a : Automaton) → IsMade E l paths t a → IsPlacedWhere E (states a) m t (Leads l.blocks a)
  unfolding IsMade
  placed t a made = record { table = made.table; is_table = made.placed; exact = made.exact }

  pub placed_r : (t : RelTerm) (a : Machine) → IsMadeR E l paths t a → IsPlacedWhereR E (machine_states a) m t (LeadsR l.blocks a)
  unfolding IsMadeR
  placed_r t a made = record { table = made.table; is_table = made.placed; exact = made.exact }

  -- where it doesn't matter whether the table turns round
  pub plainly : (t : PathTerm) (a : Automaton) → IsMade E l paths t a → IsPlaced m t (Leads l.blocks a)
  unfolding IsMade
  plainly t a made = record { table = made.table; is_table = made.placed }

  pub plainly_r : (t : RelTerm) (a : Machine) → IsMadeR E l paths t a → IsPlacedR m t (LeadsR l.blocks a)
  unfolding IsMadeR
  plainly_r t a made = record { table = made.table; is_table = made.placed }

  -- the automaton of a term of this form, with these words and n states
  pub by_form : (u : PathTerm) (X : WordSet) (a : Automaton) (n : ℕ) → In m.setting u ≡ X → IsAutomaton a → a.letters ≡ block_count l.blocks → states a ≡ n
      → ((w : List ℕ) → Accepts a (map (read_by l.blocks) w) ↔ X w) → IsPlacedWhere E n m u (Leads l.blocks a) → IsMade E l paths u a
  unfolding IsMade
  by_form u X a n words ok letters count language placed = record {
    automaton = ok;
    letters = letters;
    language = subst (λ (Y : WordSet). (w : List ℕ) → Accepts a (map (read_by l.blocks) w) ↔ Y w) (sym words) language;
    table = placed.table;
    placed = placed.is_table;
    exact = λ e. subst (λ (k : ℕ). IsExact k (Leads l.blocks a) (At m u) placed.table) (sym count) (placed.exact e);
  }

  pub by_form_r : (u : RelTerm) (X : Relation) (a : Machine) (n : ℕ) → InR m.setting u ≡ X → IsMachine a → a.letters ≡ block_count l.blocks → machine_states a ≡ n
      → ((v o : List ℕ) → Relates (read_by l.blocks) a v o ↔ X v o) → IsPlacedWhereR E n m u (LeadsR l.blocks a) → IsMadeR E l paths u a
  unfolding IsMadeR
  by_form_r u X a n pairs ok letters count relation placed = record {
    machine = ok;
    letters = letters;
    relation = subst (λ (Y : Relation). (v o : List ℕ) → Relates (read_by l.blocks) a v o ↔ Y v o) (sym pairs) relation;
    table = placed.table;
    placed = placed.is_table;
    exact = λ e. subst (λ (k : ℕ). IsExact k (OnPairs (LeadsR l.blocks a)) (OnPairs (AtR m u)) placed.table) (sym count) (placed.exact e);
  }
