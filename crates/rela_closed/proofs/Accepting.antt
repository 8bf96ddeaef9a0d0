-- Words that automata accept, told by the final states of the sets that they reach.
use Rattle.std.proofs.Common.{◌≡◌, ℕ, ◌+◌, ◌<◌, ◌≤◌, ◌↔◌, Bool, true, false, not, List, [], ◌∷◌, ◌++◌, length, get_or, map, take, refl, sym, ap, ◌∙◌, subst, inl, inr, arith}
use Rattle.std.specs.Bool.{IsTrue}
use Rattle.std.specs.List.{All}
use Rattle.std.proofs.lemmas.Bool.{cases_lt, false≢true}
use Rattle.std.proofs.lemmas.List.{get_or-map, get_or_append_left, get_or_push, length-map, length_push, take_all}
use Rattle.std.proofs.lemmas.List.Elements.{All-from_get_or, All-get_or}
use Rattle.std.proofs.lemmas.Option.{get_or_from_slice_get, slice_get_within}
use Rattle.rela_nfa.specs.Automaton.{Automaton}
use Rattle.rela_nfa.specs.Runs.{Accepts}
use Rattle.rela_nfa.specs.StateSet.{Lists}
use Rattle.rela_closed.specs.Closed.{AreAccepted}
use Rattle.rela_closed.specs.Listing.{AreListed, TellAllFinals, TellsFinals}
use Rattle.rela_closed.specs.Sets.{AreMet, HasFinal, ReachedBy}
use Rattle.rela_closed.proofs.JointSets.{reached_at, reached_each}
use Rattle.rela_closed.proofs.Listed.{all_met}

-- a word is accepted where the set that it reaches has a final state
pub accepts_final : (a : Automaton) (word set : List ℕ) → Lists (ReachedBy a word) set → Accepts a word ↔ HasFinal a set
accepts_final a word set is = (λ (q, reach, final). (q, (is.members q).1 reach, final), λ (q, among, final). (q, (is.members q).0 among, final))

-- no state is final where none was found
pub none_final : (a : Automaton) (set : List ℕ) (i : ℕ) → length set ≤ i → ¬ HasFinal a (take i set) → IsTrue false ↔ HasFinal a set
none_final a set i all none = (λ yes'. absurd (false≢true yes'), λ final. absurd (none (subst (HasFinal a) (sym (take_all i set all)) final)))

-- a set of a table
pub set_at : {Y : Type 0} (items : Y → List ℕ) (sets : List Y) (n : ℕ) (y : Y) (all : List (List ℕ)) (set : List ℕ) → map items sets ≡ all → n < length all → y ≡ get_or sets n y → set ≡ items y
    → get_or all n [] ≡ set
set_at items sets n y all set view below at is =
    ap (λ (l : List (List ℕ)). get_or l n []) (sym view) ∙ get_or-map items sets n y [] (omega (arith, below, ap length view, length-map sets items)) ∙ ap items (sym at) ∙ sym is

-- the other flags
pub others_tell : (P : ℕ → Type 0) (flags others : List Bool) (n : ℕ) → length flags ≡ n → others ≡ map not flags → ((i : ℕ) → i < n → IsTrue (get_or flags i false) ↔ P i)
    → (i : ℕ) → i < n → IsTrue (get_or others i false) ↔ (¬ P i)
others_tell P flags others n len are tell i below =
    subst (λ flag. IsTrue flag ↔ (¬ P i)) (sym (ap (λ (l : List Bool). get_or l i false) are ∙ get_or-map not flags i false false (omega arith)))
    (other (get_or flags i false) (P i) (tell i below))
  where
    other : (b : Bool) (Q : Type 0) → IsTrue b ↔ Q → IsTrue (not b) ↔ (¬ Q)
    other true Q tells = (λ yes'. absurd (false≢true yes'), λ none. absurd (none (tells.0 refl)))
    other false Q tells = (λ _ q. false≢true (tells.1 q), λ _. refl)

-- one flag more
pub flags_longer : (flags flags' : List Bool) (n : ℕ) (b : Bool) → length flags ≡ n → flags' ≡ flags ++ b ∷ [] → length flags' ≡ n + 1
flags_longer flags flags' n b len pushed = ap length pushed ∙ length_push flags b ∙ ap (λ k. k + 1) len

pub flags_more : (P : ℕ → Type 0) (flags flags' : List Bool) (n : ℕ) (b : Bool) → length flags ≡ n → flags' ≡ flags ++ b ∷ [] → ((i : ℕ) → i < n → IsTrue (get_or flags i false) ↔ P i)
    → IsTrue b ↔ P n → (i : ℕ) → i < n + 1 → IsTrue (get_or flags' i false) ↔ P i
flags_more P flags flags' n b len pushed before last i below = elim (cases_lt i n) [
  | inl earlier ↦
      subst (λ f. IsTrue f ↔ P i) (sym (ap (λ (l : List Bool). get_or l i false) pushed ∙ get_or_append_left flags (b ∷ []) false i (omega arith))) (before i earlier)
  | inr not_earlier ↦
      let here : n ≡ i = omega arith in
      subst (λ f. IsTrue f ↔ P i) (sym (ap (λ (l : List Bool). get_or l i false) pushed ∙ get_or_push flags b false i (len ∙ here))) (subst (λ m. IsTrue b ↔ P m) here last)
]

module _ (automata : List Automaton) (n : ℕ) (below : n < length automata) where
  -- sets that a word reaches have one for each automaton
  pub some_set : (table : List (List (List ℕ))) → All (AreMet automata) table → All (λ sets. n < length sets) table
  some_set table met = All-from_get_or (λ sets. n < length sets) table [] (λ i within.
      let (word, reached) = All-get_or (AreMet automata) table i [] within met in
      omega (arith, reached_each automata word (get_or table i []) reached))

  pub met_set : (table : List (List (List ℕ))) (a : Automaton) → a ≡ get_or automata n a → All (AreMet automata) table → All (λ sets. AreMet (a ∷ []) (get_or sets n [] ∷ [])) table
  met_set table a at met = All-from_get_or (λ sets. AreMet (a ∷ []) (get_or sets n [] ∷ [])) table [] (λ i within.
      let (word, reached) = All-get_or (AreMet automata) table i [] within met in
      (word, (subst (λ b. Lists (ReachedBy b word) (get_or (get_or table i []) n [])) (sym at) (reached_at automata word (get_or table i []) reached n a below), refl)))

-- the flags with some numbers
pub flags_at : (a : Automaton) (n : ℕ) (table : List (List (List ℕ))) (numbers : List ℕ) (finals flags : List Bool)
    → ((i : ℕ) → i < length table → IsTrue (get_or finals i false) ↔ HasFinal a (get_or (get_or table i []) n [])) → All (λ number. number < length table) numbers
    → flags ≡ map (λ number. get_or finals number false) numbers → TellsFinals a n table numbers flags
flags_at a n table numbers finals flags tell within are = record {
  each = ap length are ∙ length-map numbers (λ number. get_or finals number false);
  final_states = λ i below.
      subst (λ flag. IsTrue flag ↔ HasFinal a (get_or (get_or table (get_or numbers i 0) []) n []))
      (sym (ap (λ (l : List Bool). get_or l i false) are ∙ get_or-map (λ number. get_or finals number false) numbers i 0 false below))
      (tell (get_or numbers i 0) (All-get_or (λ number. number < length table) numbers i 0 below within));
}

module _ (table : List (List (List ℕ))) (numbers : List ℕ) where
  pub finals_none : (accepted : List (List Bool)) → accepted ≡ [] → TellAllFinals [] table numbers accepted
  finals_none accepted none = record { each = ap length none; finals = λ n a below. absurd (omega (arith, below)) }

  -- one automaton more
  pub finals_more : (automata automata' : List Automaton) (n : ℕ) (a : Automaton) (accepted accepted' : List (List Bool)) (flags : List Bool) → length automata ≡ n → automata' ≡ automata ++ a ∷ []
      → accepted' ≡ accepted ++ flags ∷ [] → TellAllFinals automata table numbers accepted → TellsFinals a n table numbers flags → TellAllFinals automata' table numbers accepted'
  finals_more automata automata' last a accepted accepted' flags len more pushed before tells = record {
    each = ap length pushed ∙ length_push accepted flags ∙ ap (λ k. k + 1) before.each ∙ sym (ap length more ∙ length_push automata a);
    finals = λ n d below.
        let each = before.each in
        subst (λ (l : List Automaton). TellsFinals (get_or l n d) n table numbers (get_or accepted' n [])) (sym more)
        (subst (λ (l : List (List Bool)). TellsFinals (get_or (automata ++ a ∷ []) n d) n table numbers (get_or l n [])) (sym pushed)
        (elim (cases_lt n (length automata)) [
          | inl old ↦
              subst (λ b. TellsFinals b n table numbers (get_or (accepted ++ flags ∷ []) n [])) (sym (get_or_append_left automata (a ∷ []) d n old))
              (subst (λ l. TellsFinals (get_or automata n d) n table numbers l) (sym (get_or_append_left accepted (flags ∷ []) [] n (omega arith))) (before.finals n d old))
          | inr not_old ↦
              let here : length automata ≡ n = omega (arith, ap length more, length_push automata a) in
              subst (λ m. TellsFinals (get_or (automata ++ a ∷ []) m d) m table numbers (get_or (accepted ++ flags ∷ []) m [])) here
              (subst (λ b. TellsFinals b (length automata) table numbers (get_or (accepted ++ flags ∷ []) (length automata) [])) (sym (get_or_push automata a d (length automata) refl))
              (subst (λ l. TellsFinals a (length automata) table numbers l) (sym (get_or_push accepted flags [] (length automata) each)) (subst (λ m. TellsFinals a m table numbers flags) (sym len) tells)))
        ]));
  }

-- listed words are accepted where the sets that they reach have a final state
pub accepted_words : (automata : List Automaton) (words : List (List ℕ)) (table : List (List (List ℕ))) (numbers : List ℕ) (accepted : List (List Bool))
    → AreListed automata words table numbers → TellAllFinals automata table numbers accepted → AreAccepted automata words accepted
accepted_words automata words table numbers accepted listed tell = record {
  each = tell.each;
  flags = λ n a at. let below = slice_get_within automata n a at in let here = get_or_from_slice_get automata n a a at in (tell.finals n a below).each ∙ listed.each;
  accepts = λ n i a at within.
      let below = slice_get_within automata n a at in let here = get_or_from_slice_get automata n a a at in
      let each = listed.each in
      let reached : Lists (ReachedBy a (get_or words i [])) (get_or (get_or table (get_or numbers i 0) []) n []) =
      subst (λ b. Lists (ReachedBy b (get_or words i [])) (get_or (get_or table (get_or numbers i 0) []) n [])) here
      (reached_at automata (get_or words i []) (get_or table (get_or numbers i 0) []) (listed.reached i within) n a below) in
      let accepts = accepts_final a (get_or words i []) (get_or (get_or table (get_or numbers i 0) []) n []) reached in
      let flag = subst (λ b. TellsFinals b n table numbers (get_or accepted n [])) here (tell.finals n a below) in
      let final = flag.final_states i (omega arith) in
      (λ told. accepts.1 (final.0 told), λ taken. final.1 (accepts.0 taken));
}

-- the same for automata and a table that equal those
pub accepted_by : (automata old : List Automaton) (words : List (List ℕ)) (table table' : List (List (List ℕ))) (numbers numbers' : List ℕ) (accepted : List (List Bool)) → old ≡ automata → table' ≡ table
    → numbers' ≡ numbers → AreListed old words table numbers → TellAllFinals automata table' numbers' accepted → AreAccepted automata words accepted
accepted_by automata old words table table' numbers numbers' accepted one two three listed tell =
    accepted_words automata words table numbers accepted (subst (λ (l : List Automaton). AreListed l words table numbers) one listed)
    (subst (λ (t : List (List (List ℕ))). TellAllFinals automata t numbers accepted) two (subst (λ (ns : List ℕ). TellAllFinals automata table' ns accepted) three tell))

pub met_by : (automata old : List Automaton) (words : List (List ℕ)) (table table' : List (List (List ℕ))) (numbers : List ℕ) → old ≡ automata → table' ≡ table
    → AreListed old words table numbers → All (AreMet automata) table'
met_by automata old words table table' numbers one two listed =
    subst (λ (t : List (List (List ℕ))). All (AreMet automata) t) (sym two) (all_met automata words table numbers (subst (λ (l : List Automaton). AreListed l words table numbers) one listed))
