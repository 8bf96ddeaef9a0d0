-- What is sought of two claims.
use Rattle.std.proofs.Common.{◌≡◌, ◌⊎◌, ◌↔◌, refl, inl, inr}
use Rattle.rela_letter_nfa.specs.Differences.{IsAgreed, IsAlone, IsSought}
use Rattle.rela_letter_nfa.specs.declared.difference.Sought.{Sought}
use Rattle.rela_letter_nfa.specs.declared.difference.Sought.TheVariants.{FirstAlone, EitherAlone}
use Rattle.rela_letter_nfa.specs.declared.difference.Which.{Which}
use Rattle.rela_letter_nfa.specs.declared.difference.Which.TheVariants.{First, Second}

pub sought_along : (sought : Sought) (P P' Q Q' : Type 0) → P ↔ P' → Q ↔ Q' → IsSought sought P Q → IsSought sought P' Q'
sought_along FirstAlone P P' Q Q' first second is = (first.0 is.0, λ q. is.1 (second.1 q))
sought_along EitherAlone P P' Q Q' first second is = elim is [
  | inl one ↦ inl (first.0 one.0, λ q. one.1 (second.1 q))
  | inr other ↦ inr (second.0 other.0, λ p. other.1 (first.1 p))
]

pub sought_told : (sought : Sought) (P P' Q Q' R : Type 0) → R ↔ IsSought sought P Q → P ↔ P' → Q ↔ Q' → R ↔ IsSought sought P' Q'
sought_told sought P P' Q Q' R told first second = (
  λ r. sought_along sought P P' Q Q' first second (told.0 r),
  λ is. told.1 (sought_along sought P' P Q' Q (first.1, first.0) (second.1, second.0) is),
)

-- neither claim is sought where neither holds
pub not_sought : (sought : Sought) (P Q : Type 0) → ¬ P → ¬ Q → ¬ IsSought sought P Q
not_sought FirstAlone P Q no_p no_q is = no_p is.0
not_sought EitherAlone P Q no_p no_q is = elim is [ inl one ↦ no_p one.0 | inr other ↦ no_q other.0 ]

-- what isn't sought of claims that are decided
pub agreed : (sought : Sought) (P Q : Type 0) → P ⊎ ¬ P → Q ⊎ ¬ Q → ¬ IsSought sought P Q → IsAgreed sought P Q
agreed FirstAlone P Q first second never = λ p. elim second [ inl q ↦ q | inr no_q ↦ absurd (never (p, no_q)) ]
agreed EitherAlone P Q first second never = (
  λ p. elim second [ inl q ↦ q | inr no_q ↦ absurd (never (inl (p, no_q))) ],
  λ q. elim first [ inl p ↦ p | inr no_p ↦ absurd (never (inr (q, no_p))) ],
)

-- the side of what is sought is that of the first claim, if it holds
pub side_told : (sought : Sought) (side : Which) (P P' Q : Type 0) → P ↔ P' → (side ≡ First → P') → (side ≡ Second → ¬ P') → IsSought sought P Q → IsAlone side P Q
side_told FirstAlone First P P' Q same first second is = is
side_told FirstAlone Second P P' Q same first second is = absurd (second refl (same.0 is.0))
side_told EitherAlone First P P' Q same first second is = elim is [ inl one ↦ one | inr other ↦ absurd (other.1 (same.1 (first refl))) ]
side_told EitherAlone Second P P' Q same first second is = elim is [ inl one ↦ absurd (second refl (same.0 one.0)) | inr other ↦ other ]
