-- Which symbols have a letter in the set of a class.
use Rattle.std.proofs.Common.{◌≡◌, ℕ, zero, suc, ◌+◌, ◌<◌, ◌≤◌, ◌↔◌, Bool, true, false, List, [], ◌∷◌, ◌++◌, length, get_or, inl, inr, refl, sym, ap, ◌∙◌, subst, arith}
use Rattle.std.specs.List.{All}
use Rattle.std.specs.Prelude.{Contains, ◌&&◌, not, Some, MatchBool, slice_get, IfOk, Result, Ok, Err}
use Rattle.std.proofs.lemmas.Bool.{cases_lt}
use Rattle.std.proofs.lemmas.List.{get_or_append_left, get_or_default, get_or_push}
use Rattle.std.proofs.lemmas.Option.{slice_get-get_or, slice_get_within, get_or_from_slice_get}
use Rattle.std.proofs.lemmas.List.Elements.{All-contains}
use Rattle.rela_labels.specs.Letters.{has}
use Rattle.rela_labels.specs.Partition.{block_count, Together}
use Rattle.rela_rir.specs.Meaning.{HasSymbol}
use Rattle.rela_rir.specs.declared.set.SymbolSet.{SymbolSet}
use Rattle.rela_build.specs.Lettering.{Lettering, AreLetterBlocks, IsInEntry, HasMember, AreClassLetters, AreLetters}
use Rattle.rela_build.specs.Reading.{read_by, HoldsJust}
use Rattle.rela_build.proofs.Readings.{read_symbol, is_symbol_of}
use Rattle.rela_build.proofs.Gathered.{AreBlocksOf}

-- the letters of symbols with P, where symbols of one block have it alike
pub whole_blocks : (blocks : List ℕ) (P : ℕ → Type 0) (set : List Bool) → length set ≡ block_count blocks → ((s : ℕ) → P s → s < length blocks)
    → ((s t : ℕ) → s < length blocks → t < length blocks → Together blocks s t → P s → P t) → AreBlocksOf blocks P set → HoldsJust blocks P set
whole_blocks blocks P set size symbols alike letters = record {
  size = size;
  holds = λ s. (
    λ among.
        let below = is_symbol_of blocks set s size among in
        let found = (letters (read_by blocks s)).0 among in
        alike found.0 s (symbols found.0 found.1) below (found.2 ∙ read_symbol blocks s below) found.1,
    λ is. (letters (read_by blocks s)).1 (s, is, sym (read_symbol blocks s (symbols s is))),
  );
}

module _ (l : Lettering) (are : AreLetterBlocks l) where
  abbrev blocks : List ℕ
  blocks = l.blocks

  symbols_enough : l.path_symbols ≤ length blocks
  symbols_enough = omega (arith, are.symbols)

  pub path_letters : (set : List Bool) → length set ≡ block_count blocks → AreBlocksOf blocks (λ s. s < l.path_symbols) set
      → HoldsJust blocks (λ s. s < l.path_symbols) set
  path_letters set size letters =
      whole_blocks blocks (λ s. s < l.path_symbols) set size (λ s path. omega (arith, path, symbols_enough))
      are.of_path letters

  module _ (path : List Bool) (of_path : HoldsJust blocks (λ s. s < l.path_symbols) path) (class : SymbolSet) (k : ℕ)
      (within : k < length l.classes) (is : class ≡ get_or l.classes k class) (listed : All (λ s. s < l.path_symbols) class.members) where
    has_member : (s : ℕ) → s < length blocks → HasMember blocks class.members (read_by blocks s) → Contains class.members s
    has_member s below (t, member, block) =
        let path_t = All-contains (λ r. r < l.path_symbols) class.members t listed member in
        let alike = are.of_classes t s (omega (arith, path_t, symbols_enough)) below (block ∙ read_symbol blocks s below) k class within in
        (subst (λ (set : SymbolSet). Contains set.members t ↔ Contains set.members s) (sym is) alike).0 member

    is_member : (s : ℕ) → Contains class.members s → HasMember blocks class.members (read_by blocks s)
    is_member s member =
        let path_s = All-contains (λ r. r < l.path_symbols) class.members s listed member in
        (s, member, sym (read_symbol blocks s (omega (arith, path_s, symbols_enough))))

    chosen : (negated : Bool) (s : ℕ) → s < length blocks
        → MatchBool negated ((has path (read_by blocks s) ≡ true) × (¬ HasMember blocks class.members (read_by blocks s))) (HasMember blocks class.members (read_by blocks s))
        → (s < l.path_symbols) × MatchBool negated (¬ Contains class.members s) (Contains class.members s)
    chosen true s below letter = ((of_path.holds s).0 letter.0, λ member. letter.1 (is_member s member))
    chosen false s below letter =
        let member = has_member s below letter in (All-contains (λ r. r < l.path_symbols) class.members s listed member, member)

    chosen_back : (negated : Bool) (s : ℕ) → s < l.path_symbols → MatchBool negated (¬ Contains class.members s) (Contains class.members s)
        → MatchBool negated ((has path (read_by blocks s) ≡ true) × (¬ HasMember blocks class.members (read_by blocks s))) (HasMember blocks class.members (read_by blocks s))
    chosen_back true s low other = ((of_path.holds s).1 low, λ member. other (has_member s (omega (arith, low, symbols_enough)) member))
    chosen_back false s low member = is_member s member

    pub class_letters : (set : List Bool) → AreClassLetters blocks path class set → HoldsJust blocks (HasSymbol (l.path_symbols) class) set
    class_letters set letters = record {
      size = letters.size;
      holds = λ s. (
        λ among.
            let below = is_symbol_of blocks set s letters.size among in
            let both = chosen class.negated s below ((letters.letters (read_by blocks s)).0 among) in
            record { path = both.0; chosen = both.1 },
        λ symbol. (letters.letters (read_by blocks s)).1 (chosen_back class.negated s symbol.path symbol.chosen),
      );
    }

    pub entry_letters : (set : List Bool) → AreClassLetters blocks path class set
        → HoldsJust blocks (IsInEntry l k) set
    entry_letters set letters =
        let just = class_letters set letters in record {
          size = just.size;
          holds = λ s. (
            λ among. (class, slice_get-get_or l.classes k class within ∙ ap Some (sym is), (just.holds s).0 among),
            λ (other, at, symbol).
                let same : other ≡ class = sym (get_or_from_slice_get l.classes k other class at) ∙ sym is in
                (just.holds s).1 (subst (λ (c : SymbolSet). HasSymbol (l.path_symbols) c s) same symbol),
          );
        }

some_entry : (classes : List SymbolSet) (k : ℕ) → k < length classes → (class : SymbolSet) × (class ≡ get_or classes k class)
some_entry [] k within = absurd (omega arith)
some_entry (c ∷ classes) zero within = (c, refl)
some_entry (c ∷ classes) (suc k) within = some_entry classes k (omega arith)

-- the sets of letters are as they have to be
pub letters_whole : (l : Lettering) (path : List Bool) (sets : List (List Bool)) → AreLetterBlocks l
    → All (λ class. All (λ s. s < l.path_symbols) class.members) l.classes
    → length path ≡ block_count l.blocks → AreBlocksOf l.blocks (λ s. s < l.path_symbols) path
    → length sets ≡ length l.classes
    → ((k : ℕ) (class : SymbolSet) (set : List Bool) → k < length l.classes → AreClassLetters l.blocks path (get_or l.classes k class) (get_or sets k set))
    → AreLetters l path sets
letters_whole l path sets are listed size letters count each =
    let of_path = path_letters l are path size letters in record {
      blocks = are;
      of_path = of_path;
      count = count;
      each = λ k set at.
          let within : k < length l.classes = omega (arith, slice_get_within sets k set at, count) in
          let class = some_entry l.classes k within in
          subst (λ (x : List Bool). HoldsJust l.blocks (IsInEntry l k) x) (get_or_from_slice_get sets k set set at)
          (entry_letters l are path of_path class.0 k within class.1
          (subst (λ (c : SymbolSet). All (λ s. s < l.path_symbols) c.members) (sym class.1) (listed k class.0 within))
          (get_or sets k set)
          (subst (λ (c : SymbolSet). AreClassLetters l.blocks path c (get_or sets k set)) (sym class.1) (each k class.0 set within)));
    }

-- the set that is got for an entry, and what it is where there is none
pub got_letters : (l : Lettering) (path : List Bool) (sets : List (List Bool)) (k : ℕ) (set : List Bool) → AreLetters l path sets → slice_get sets k ≡ Some set
    → HoldsJust l.blocks (IsInEntry l k) set
got_letters l path sets k set are at = are.each k set at

pub no_letters : (l : Lettering) (path : List Bool) (sets : List (List Bool)) (k : ℕ) → AreLetters l path sets → length sets ≤ k
    → (s : ℕ) → ¬ IsInEntry l k s
no_letters l path sets k are past s (class, at, symbol) =
    omega (arith, slice_get_within l.classes k class at, past, are.count)

-- letters less others, by blocks
pub less : (blocks : List ℕ) (path members set : List Bool) (class : SymbolSet) → class.negated ≡ true → length path ≡ block_count blocks
    → length set ≡ length path → AreBlocksOf blocks (Contains class.members) members → ((k : ℕ) → has set k ≡ (has path k && not (has members k)))
    → AreClassLetters blocks path class set
less blocks path members set class negated size same_size gathered minus = record {
  size = same_size ∙ size;
  letters = λ k.
      subst (λ (b : Bool). (has set k ≡ true) ↔ MatchBool b ((has path k ≡ true) × (¬ HasMember blocks class.members k)) (HasMember blocks class.members k)) (sym negated)
      (tell k (has path k) (has members k) (has set k) (minus k) (gathered k));
} where
  tell : (k : ℕ) (p m r : Bool) → r ≡ (p && not m) → ((m ≡ true) ↔ HasMember blocks class.members k)
      → (r ≡ true) ↔ ((p ≡ true) × (¬ HasMember blocks class.members k))
  tell k true true r is told = (λ e. absurd cc, λ both. absurd (both.1 (told.0 refl)))
  tell k true false r is told = (λ e. (refl, λ member. let no = told.1 member in absurd cc), λ both. is)
  tell k false m r is told = (λ e. absurd cc, λ both. let no = both.0 in absurd cc)

pub members_alone : (blocks : List ℕ) (path members : List Bool) (class : SymbolSet) → class.negated ≡ false → length members ≡ block_count blocks
    → AreBlocksOf blocks (Contains class.members) members → AreClassLetters blocks path class members
members_alone blocks path members class negated size gathered = record {
  size = size;
  letters = λ k.
      subst (λ (b : Bool). (has members k ≡ true) ↔ MatchBool b ((has path k ≡ true) × (¬ HasMember blocks class.members k)) (HasMember blocks class.members k)) (sym negated)
      (gathered k);
}

pub less_told : {E : Type 0} (blocks : List ℕ) (path members : List Bool) (lent : List ℕ) (class : SymbolSet) (r : Result (List Bool) E) → class.negated ≡ true
    → length path ≡ block_count blocks → lent ≡ class.members → AreBlocksOf blocks (Contains lent) members
    → IfOk r (λ set. length set ≡ length path) → IfOk r (λ set. (k : ℕ) → has set k ≡ (has path k && not (has members k)))
    → IfOk r (AreClassLetters blocks path class)
less_told blocks path members lent class (Ok set) negated size is gathered same_size minus =
    less blocks path members set class negated size same_size (subst (λ (l : List ℕ). AreBlocksOf blocks (Contains l) members) is gathered) minus
less_told blocks path members lent class (Err e) negated size is gathered same_size minus = tt

-- one more class
pub one_more_class : (blocks : List ℕ) (path : List Bool) (classes : List SymbolSet) (class : SymbolSet) (sets pushed : List (List Bool)) (set : List Bool) (i : ℕ)
    → length sets ≡ i → class ≡ get_or classes i class → pushed ≡ sets ++ set ∷ [] → AreClassLetters blocks path class set
    → ((k : ℕ) (d : SymbolSet) (e : List Bool) → k < i → AreClassLetters blocks path (get_or classes k d) (get_or sets k e))
    → i < length classes
    → (k : ℕ) (d : SymbolSet) (e : List Bool) → k < i + 1 → AreClassLetters blocks path (get_or classes k d) (get_or pushed k e)
one_more_class blocks path classes class sets pushed set i count is pushed_is here before within k d e below =
    subst (λ (l : List (List Bool)). AreClassLetters blocks path (get_or classes k d) (get_or l k e)) (sym pushed_is)
    (elim (cases_lt k i) [
      | inl earlier ↦
          subst (λ (x : List Bool). AreClassLetters blocks path (get_or classes k d) x) (sym (get_or_append_left sets (set ∷ []) e k (omega (arith, earlier, count))))
          (before k d e earlier)
      | inr last ↦
          let at : k ≡ i = omega (arith, below, last) in
          subst (λ (j : ℕ). AreClassLetters blocks path (get_or classes j d) (get_or (sets ++ set ∷ []) j e)) (sym at)
          (subst (λ (x : List Bool). AreClassLetters blocks path (get_or classes i d) x) (sym (get_or_push sets set e i count))
          (subst (λ (x : SymbolSet). AreClassLetters blocks path x set) (is ∙ get_or_default classes i class d within) here))
    ])
