-- What a text answers as an IPv4 prefix, from what it is read as.
use Rattle.std.proofs.Common.{◌≡◌, ◌∙◌, ℕ, List, Option, Some, None, Result, Ok, Err, ◌↔◌, refl, sym, ap}
use Rattle.rela_json.specs.declared.error.LoadError.{LoadError}
use Rattle.rela_json.specs.declared.error.LoadError.TheVariants.{BadPrefix}
use Rattle.rela_flows.specs.Notation.{IsTextOf}
use Rattle.rela_flows.specs.declared.prefix.Ipv4Prefix.{Ipv4Prefix}
use Rattle.rela_flows.specs.declared.prefix.Ipv6Prefix.{Ipv6Prefix}
use Rattle.rela_flows.specs.declared.prefix.Prefix.{Prefix}
use Rattle.rela_flows.specs.declared.prefix.Prefix.TheVariants.{V4, V6}
use Rattle.rela_snapshot.specs.Steps.{IsAnswer}
use Rattle.rela_tables.specs.Routes.{IsPrefix}

same_ok : (p q : Ipv4Prefix) → ◌≡◌ {A = Option Prefix} (Some (V4 p)) (Some (V4 q)) → ◌≡◌ {A = Result Ipv4Prefix LoadError} (Ok q) (Ok p)
same_ok p q e = let same : p ≡ q = cc in ap (λ (x : Ipv4Prefix). Ok x) (sym same)

only_prefix : (row : ℕ) (text : List ℕ) (o : Option Prefix) (p : Ipv4Prefix) → ((q : Prefix) → (o ≡ Some q) ↔ IsTextOf text q) → o ≡ Some (V4 p) → (s : Result Ipv4Prefix LoadError) → IsPrefix row text s → s ≡ Ok p
unfolding IsPrefix
only_prefix row text o p exact is (Ok q) h = same_ok p q (sym is ∙ (exact (V4 q)).1 h)
only_prefix row text o p exact is (Err e) h = absurd (h.1 p ((exact (V4 p)).0 is))

pub is_prefix : (row : ℕ) (text : List ℕ) (o : Option Prefix) (p : Ipv4Prefix) → ((q : Prefix) → (o ≡ Some q) ↔ IsTextOf text q) → o ≡ Some (V4 p) → IsAnswer (IsPrefix row text) (Ok p)
unfolding IsPrefix
is_prefix row text o p exact is = record { answers = (exact (V4 p)).0 is; alone = only_prefix row text o p exact is }

only_refusal : (row : ℕ) (text : List ℕ) → ((p : Ipv4Prefix) → ¬ IsTextOf text (V4 p)) → (s : Result Ipv4Prefix LoadError) → IsPrefix row text s → s ≡ Err (BadPrefix row)
unfolding IsPrefix
only_refusal row text none (Ok q) h = absurd (none q h)
only_refusal row text none (Err e) h = ap (λ (x : LoadError). Err x) h.0

pub no_prefix : (row : ℕ) (text : List ℕ) → ((p : Ipv4Prefix) → ¬ IsTextOf text (V4 p)) → IsAnswer (IsPrefix row text) (Err (BadPrefix row))
unfolding IsPrefix
no_prefix row text none = record { answers = (refl, none); alone = only_refusal row text none }

pub no_text : (text : List ℕ) (o : Option Prefix) → ((q : Prefix) → (o ≡ Some q) ↔ IsTextOf text q) → o ≡ None → (p : Ipv4Prefix) → ¬ IsTextOf text (V4 p)
no_text text o exact none p h = let e : o ≡ Some (V4 p) = (exact (V4 p)).1 h in absurd (cc)

pub other_text : (text : List ℕ) (o : Option Prefix) (six : Ipv6Prefix) → ((q : Prefix) → (o ≡ Some q) ↔ IsTextOf text q) → o ≡ Some (V6 six) → (p : Ipv4Prefix) → ¬ IsTextOf text (V4 p)
other_text text o six exact is p h = let e : o ≡ Some (V4 p) = (exact (V4 p)).1 h in absurd (cc)
