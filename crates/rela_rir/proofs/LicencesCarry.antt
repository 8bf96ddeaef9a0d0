-- What licenses an open answer in a scene, or forces it, does so in each scene that agrees on what the terms name.
use Rattle.std.proofs.Common.{ℕ, ◌+◌, ◌<◌, ◌⊎◌, inl, inr, List, ◌++◌, subst, sym}
use Rattle.std.specs.Prelude.{Option}
use Rattle.std.specs.List.{All, AllPairs}
use Rattle.std.proofs.lemmas.List.Elements.{All-weaker}
use Rattle.rela_rir.specs.Meaning.{IsPathWord}
use Rattle.rela_rir.specs.Places.{Scene, Apart, ApartR, JustOne}
use Rattle.rela_rir.specs.Fixed.{IsFixed, IsFixedR}
use Rattle.rela_rir.specs.Agreement.{SamePaths, SameSymbols, AgreeOn, AgreeOnR}
use Rattle.rela_rir.specs.Limit.{IsCheckWord, IsReached, IsReachedR, Reached, ReachedR, ToldByPlace, ReachedPair, LayerIsCounted, LayerIsCountedR, ReachedInside, ReachedInsideR, ToldByContinuing, AreTold, LayerIsForced, ForcedInside, ForcedInsideR, Licensed, Forced}
use Rattle.rela_rir.proofs.ScenesAlike.{Carries, CarriesR, carries, carries_r, turned_setting, turned as turned_choice}
use Rattle.rela_rir.proofs.FixedForms.{fixed_roll}
use Rattle.rela_rir.proofs.Subterms.{weaken, weaken_r}
use Rattle.rela_rir.specs.declared.term.PathTerm.{PathTerm}
use Rattle.rela_rir.specs.declared.term.RelTerm.{RelTerm}
use Rattle.rela_rir.specs.declared.term.PathTerm.TheOpen as F
use Rattle.rela_rir.specs.declared.term.PathTerm.TheViews.{out-PathTerm, out-RelTerm, roll-PathTerm, roll-out-PathTerm}

pub pairs_weaker : {X : Type 0} (A B : X → X → Type 0) → ((x y : X) → A x y → B x y) → (xs : List X) → AllPairs A xs → AllPairs B xs
pairs_weaker A B f xs pairs i j d before inside = f _ _ (pairs i j d before inside)

-- just one of two still holds where both are carried over both ways
pub just_one : {A B C D : Type 0} → (A → C) → (C → A) → (B → D) → (D → B) → JustOne A B → JustOne C D
just_one f f' g g' (inl one) = inl (f one.0, λ d. one.1 (g' d))
just_one f f' g g' (inr one) = inr ((λ c. one.0 (f' c)), g one.1)

module _ (m n : Scene) (same : SameSymbols m n) where
  path_word : (w : List ℕ) → IsPathWord m.setting.path_symbols w → IsPathWord n.setting.path_symbols w
  path_word w is = subst (λ (many : ℕ). IsPathWord many w) same.setting.path_symbols is

  check_word : (w : List ℕ) → IsCheckWord m w → IsCheckWord n w
  check_word w is =
      subst (λ (markers : ℕ). All (λ s. s < n.setting.path_symbols + markers) w) same.markers
      (subst (λ (many : ℕ). All (λ s. s < many + m.markers) w) same.setting.path_symbols is)

  pub reached : (x : PathTerm) (k : ℕ) → Carries m n x → Reached m x k → Reached n x k
  reached x k c has = record {
    places = has.places;
    many = has.many;
    apart = pairs_weaker (Apart m x) (Apart n x) c.apart has.places has.apart;
    reached = All-weaker (IsReached m x) (IsReached n x) (λ p is. (is.0, check_word is.0 is.1, c.places p is.0 is.2)) has.places has.reached;
  }

  pub reached_r : (r : RelTerm) (k : ℕ) → CarriesR m n r → ReachedR m r k → ReachedR n r k
  reached_r r k c has = record {
    places = has.places;
    many = has.many;
    apart = pairs_weaker (ApartR m r) (ApartR n r) c.apart has.places has.apart;
    reached = All-weaker (IsReachedR m r) (IsReachedR n r) (λ p is. (is.0, is.1, check_word is.0 is.2, check_word is.1 is.3, c.places p is.0 is.1 is.4)) has.places has.reached;
  }

  told_by_place : (x y : PathTerm) → Carries m n x × Carries n m x → Carries m n y × Carries n m y → (w z : List ℕ) → ToldByPlace m x y w z → ToldByPlace n x y w z
  told_by_place x y c d w z (inl told) = inl (told.0, just_one (c.0.places told.0 w) (c.1.places told.0 w) (c.0.places told.0 z) (c.1.places told.0 z) told.1)
  told_by_place x y c d w z (inr told) = inr (told.0, just_one (d.0.places told.0 w) (d.1.places told.0 w) (d.0.places told.0 z) (d.1.places told.0 z) told.1)

  pub reached_pair : (last : Option (List ℕ)) (x y : PathTerm) (k : ℕ) → Carries m n x × Carries n m x → Carries m n y × Carries n m y → ReachedPair m last x y k → ReachedPair n last x y k
  reached_pair last x y k c d has = record {
    words = has.words;
    many = has.many;
    symbols = All-weaker (IsCheckWord m) (IsCheckWord n) check_word has.words has.symbols;
    early = has.early;
    told = pairs_weaker (ToldByPlace m x y) (ToldByPlace n x y) (told_by_place x y c d) has.words has.told;
  }

  told_by_continuing : (x : PathTerm) → Carries m n x × Carries n m x → (w u : List ℕ) → ToldByContinuing m x w u → ToldByContinuing n x w u
  told_by_continuing x c w u told = (told.0, path_word told.0 told.1, just_one (c.0.words (w ++ told.0)) (c.1.words (w ++ told.0)) (c.0.words (u ++ told.0)) (c.1.words (u ++ told.0)) told.2)

  told : (x : PathTerm) (k : ℕ) → Carries m n x × Carries n m x → AreTold m x k → AreTold n x k
  told x k c has = record {
    words = has.words;
    many = has.many;
    symbols = All-weaker (IsPathWord m.setting.path_symbols) (IsPathWord n.setting.path_symbols) path_word has.words has.symbols;
    told = pairs_weaker (ToldByContinuing m x) (ToldByContinuing n x) (told_by_continuing x c) has.words has.told;
  }

  both : (x : PathTerm) → IsFixed x ⊎ SamePaths m n → Carries m n x × Carries n m x
  both = carries m n same.setting

  both_r : (r : RelTerm) → IsFixedR r ⊎ SamePaths m n → CarriesR m n r × CarriesR n m r
  both_r = carries_r m n same.setting

  counted : (k : ℕ) (x : PathTerm) → IsFixed x ⊎ SamePaths m n → LayerIsCounted (out-PathTerm x) × Reached m x k → LayerIsCounted (out-PathTerm x) × Reached n x k
  counted k x named has = (has.0, reached x k (both x named).0 has.1)

  counted_r : (k : ℕ) (r : RelTerm) → IsFixedR r ⊎ SamePaths m n → LayerIsCountedR (out-RelTerm r) × ReachedR m r k → LayerIsCountedR (out-RelTerm r) × ReachedR n r k
  counted_r k r named has = (has.0, reached_r r k (both_r r named).0 has.1)

  pub reached_inside : (k : ℕ) (x : PathTerm) → IsFixed x ⊎ SamePaths m n → ReachedInside m k x → ReachedInside n k x
  reached_inside k = weaken (SamePaths m n) _ _ _ _ (counted k) (counted_r k)

  pub reached_inside_r : (k : ℕ) (r : RelTerm) → IsFixedR r ⊎ SamePaths m n → ReachedInsideR m k r → ReachedInsideR n k r
  reached_inside_r k = weaken_r (SamePaths m n) _ _ _ _ (counted k) (counted_r k)

  forced_layer : (k : ℕ) (z : F.PathTerm-F PathTerm RelTerm) → IsFixed (roll-PathTerm z) ⊎ SamePaths m n → LayerIsForced m k z → LayerIsForced n k z
  forced_layer k (F.Complement a) named has = told a k (both a (subst (λ (T : Type 0). T ⊎ SamePaths m n) (fixed_roll (F.Complement a)) named)) has
  forced_layer k _ named never = never

  forced_here : (k : ℕ) (x : PathTerm) → IsFixed x ⊎ SamePaths m n → LayerIsForced m k (out-PathTerm x) → LayerIsForced n k (out-PathTerm x)
  forced_here k x named = forced_layer k (out-PathTerm x) (subst (λ (t : PathTerm). IsFixed t ⊎ SamePaths m n) (sym (roll-out-PathTerm x)) named)

  pub forced_inside : (k : ℕ) (x : PathTerm) → IsFixed x ⊎ SamePaths m n → ForcedInside m k x → ForcedInside n k x
  forced_inside k = weaken (SamePaths m n) _ _ (λ r. ⊥) (λ r. ⊥) (forced_here k) (λ r _ never. never)

  pub forced_inside_r : (k : ℕ) (r : RelTerm) → IsFixedR r ⊎ SamePaths m n → ForcedInsideR m k r → ForcedInsideR n k r
  forced_inside_r k = weaken_r (SamePaths m n) _ _ (λ r. ⊥) (λ r. ⊥) (forced_here k) (λ r _ never. never)

  pub licensed : (last : Option (List ℕ)) (x y : PathTerm) (limit : ℕ) → IsFixed x ⊎ SamePaths m n → IsFixed y ⊎ SamePaths m n → Licensed m last x y limit → Licensed n last x y limit
  licensed last x y limit one two (inl before) = inl (reached_inside (limit + 1) x one before)
  licensed last x y limit one two (inr (inl after)) = inr (inl (reached_inside (limit + 1) y two after))
  licensed last x y limit one two (inr (inr pair)) = inr (inr (reached_pair last x y (limit + 1) (both x one) (both y two) pair))

  pub forced : (x y : PathTerm) (limit : ℕ) → IsFixed x ⊎ SamePaths m n → IsFixed y ⊎ SamePaths m n → Forced m x y limit → Forced n x y limit
  forced x y limit one two (inl before) = inl (forced_inside (limit + 1) x one before)
  forced x y limit one two (inr after) = inr (forced_inside (limit + 1) y two after)

pub turned_symbols : (m n : Scene) → SameSymbols m n → SameSymbols n m
turned_symbols m n same = record { setting = turned_setting m.setting n.setting same.setting; markers = sym same.markers }

pub turned : (m n : Scene) (x : PathTerm) → AgreeOn m n x → AgreeOn n m x
turned m n x agree = record { symbols = turned_symbols m n agree.symbols; paths = turned_choice m n agree.paths }

pub turned_r : (m n : Scene) (r : RelTerm) → AgreeOnR m n r → AgreeOnR n m r
turned_r m n r agree = record { symbols = turned_symbols m n agree.symbols; paths = turned_choice m n agree.paths }
