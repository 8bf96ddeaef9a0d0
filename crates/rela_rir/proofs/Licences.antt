-- Words that a part tells apart are seen apart by its complement, so what forces an open answer licenses it.
use Rattle.std.proofs.Common.{◌≡◌, ◌∙◌, ℕ, ◌+◌, ◌<◌, inl, inr, List, [], ◌++◌, length, map, sym, subst, arith}
use Rattle.std.specs.Prelude.{Option}
use Rattle.std.specs.List.{All, AllPairs, slice_index_or}
use Rattle.std.proofs.lemmas.List.{length-map, get_or-map}
use Rattle.std.proofs.lemmas.List.Elements.{All-map, All-weaker}
use Rattle.rela_rir.specs.Words.{WordSet}
use Rattle.rela_rir.specs.Meaning.{In, IsPathWord}
use Rattle.rela_rir.specs.Places.{Place, Seen, Places, Scene, At, Apart, JustOne}
use Rattle.rela_rir.specs.Following.{Follows, PathsFollow}
use Rattle.rela_rir.specs.Limit.{IsCheckWord, IsReached, Reached, ReachedR, LayerIsCounted, LayerIsCountedR, ReachedInside, AreTold, LayerIsForced, ForcedInside, Licensed, Forced}
use Rattle.rela_rir.proofs.PlaceForms.{at_roll, apart_roll}
use Rattle.rela_rir.proofs.TermsFollow.{terms_follow}
use Rattle.rela_rir.proofs.Subterms.{weaken}
use Rattle.rela_rir.specs.declared.term.PathTerm.{PathTerm}
use Rattle.rela_rir.specs.declared.term.RelTerm.{RelTerm}
use Rattle.rela_rir.specs.declared.term.PathTerm.TheOpen as F
use Rattle.rela_rir.specs.declared.term.PathTerm.TheViews.{roll-PathTerm, out-PathTerm, out-RelTerm, roll-out-PathTerm}

-- where a continuation tells two words apart, so does a place
told_by_place : (X : WordSet) (x : Places) → Follows X x → (w u z : List ℕ) → JustOne (X (w ++ z)) (X (u ++ z)) → (p : Place) × JustOne (x p w) (x p u)
told_by_place X x follows w u z (inl one) =
    let passes = follows w z one.0 in
    (passes.place, inl (passes.reached, λ at. one.1 (passes.onward u at)))
told_by_place X x follows w u z (inr one) =
    let passes = follows u z one.1 in
    (passes.place, inr ((λ at. one.0 (passes.onward w at)), passes.reached))

all_pairs_seen : (A : Place → Place → Type 0) (B : List ℕ → List ℕ → Type 0) (words : List (List ℕ)) →
    ((w u : List ℕ) → B w u → A (Seen w) (Seen u)) → AllPairs B words → AllPairs A (map Seen words)
all_pairs_seen A B words f pairs i j d before inside =
    let long : length (map Seen words) ≡ length words = length-map words Seen in
    let first : slice_index_or (map Seen words) i d ≡ Seen (slice_index_or words i []) = get_or-map Seen words i [] d (omega (arith, long, before, inside)) in
    let second : slice_index_or (map Seen words) j d ≡ Seen (slice_index_or words j []) = get_or-map Seen words j [] d (omega (arith, long, inside)) in
    let seen : A (Seen (slice_index_or words i [])) (Seen (slice_index_or words j [])) = f _ _ (pairs i j [] before (omega (arith, long, inside))) in
    subst (λ p. A p (slice_index_or (map Seen words) j d)) (sym first) (subst (λ q. A (Seen (slice_index_or words i [])) q) (sym second) seen)

path_is_check : (m : Scene) (w : List ℕ) → IsPathWord m.setting.path_symbols w → IsCheckWord m w
path_is_check m w path = All-weaker (λ s. s < m.setting.path_symbols) (λ s. s < m.setting.path_symbols + m.markers) (λ s below. omega (arith, below)) w path

-- words of path symbols that reach different places of the part are reached places of its complement
pub seen_places : (m : Scene) (x : PathTerm) (k : ℕ) (words : List (List ℕ)) → length words ≡ k → All (IsPathWord m.setting.path_symbols) words →
    AllPairs (λ w u. (p : Place) × JustOne (At m x p w) (At m x p u)) words → Reached m (roll-PathTerm (F.Complement x)) k
seen_places m x k words many symbols told = record {
  places = map Seen words;
  many = length-map words Seen ∙ many;
  apart = all_pairs_seen (Apart m (roll-PathTerm (F.Complement x))) (λ w u. (p : Place) × JustOne (At m x p w) (At m x p u)) words (λ w u by. rw (apart_roll m (F.Complement x)) by) told;
  reached = All-map (IsReached m (roll-PathTerm (F.Complement x))) Seen words (λ i d inside. seen_reached (slice_index_or words i d) (symbols i d inside));
} where
  seen_reached : (w : List ℕ) → IsPathWord m.setting.path_symbols w → IsReached m (roll-PathTerm (F.Complement x)) (Seen w)
  seen_reached w path = (w, path_is_check m w path, rw (at_roll m (F.Complement x)) (path, path, λ p. ((λ at. at), λ at. at)))

-- the words that the part tells apart are reached places of its complement
reached_complement : (m : Scene) → PathsFollow m → (x : PathTerm) (k : ℕ) → AreTold m x k → Reached m (roll-PathTerm (F.Complement x)) k
reached_complement m paths x k told =
    seen_places m x k told.words told.many told.symbols
    (λ i j d before inside. (let by = told.told i j d before inside in told_by_place (In m.setting x) (At m x) (terms_follow m paths x) _ _ by.0 by.2))

counted_layer : (m : Scene) → PathsFollow m → (k : ℕ) (d : F.PathTerm-F PathTerm RelTerm) → LayerIsForced m k d → LayerIsCounted d × Reached m (roll-PathTerm d) k
counted_layer m paths k F.None never = absurd never
counted_layer m paths k F.Empty never = absurd never
counted_layer m paths k (F.Class n) never = absurd never
counted_layer m paths k (F.One s) never = absurd never
counted_layer m paths k (F.PathTerm::Union a b) never = absurd never
counted_layer m paths k (F.PathTerm::Concat a b) never = absurd never
counted_layer m paths k (F.PathTerm::Star a) never = absurd never
counted_layer m paths k (F.Meet a b) never = absurd never
counted_layer m paths k (F.Complement a) told = (tt, reached_complement m paths a k told)
counted_layer m paths k F.Pre never = absurd never
counted_layer m paths k F.Post never = absurd never
counted_layer m paths k (F.Image a r) never = absurd never

counted : (m : Scene) → PathsFollow m → (k : ℕ) (x : PathTerm) → LayerIsForced m k (out-PathTerm x) → LayerIsCounted (out-PathTerm x) × Reached m x k
counted m paths k x forced =
    let here = counted_layer m paths k (out-PathTerm x) forced in
    (here.0, subst (λ (t : PathTerm). Reached m t k) (roll-out-PathTerm x) here.1)

inside : (m : Scene) → PathsFollow m → (k : ℕ) (x : PathTerm) → ForcedInside m k x → ReachedInside m k x
inside m paths k x =
    weaken (Unit {0}) (λ t. LayerIsForced m k (out-PathTerm t)) (λ t. LayerIsCounted (out-PathTerm t) × Reached m t k)
    (λ r. ⊥) (λ r. LayerIsCountedR (out-RelTerm r) × ReachedR m r k) (λ t _. counted m paths k t) (λ r _ never. absurd never) x (inr tt)

pub forced_is_licensed : (m : Scene) → PathsFollow m → (last : Option (List ℕ)) (x y : PathTerm) (limit : ℕ) → Forced m x y limit → Licensed m last x y limit
forced_is_licensed m paths last x y limit (inl before) = inl (inside m paths (limit + 1) x before)
forced_is_licensed m paths last x y limit (inr after) = inr (inl (inside m paths (limit + 1) y after))
