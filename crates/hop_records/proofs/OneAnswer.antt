-- The statements leave one answer and one list of records.
use Rattle.std.proofs.Common.{◌≡◌, ℕ, List, sym, ◌∙◌}
use Rattle.routes.specs.Said.{Said}
use Rattle.hop_records.specs.Contract.{MeetsForward, MeetsCount}
use Rattle.hop_records.specs.declared.HopRecord.{HopRecord}

module _ (rs : List HopRecord) where
  pub one-answer-forward : (s : Said) (n r q : ℕ) (zs ys : List HopRecord) → MeetsForward rs s n r zs → MeetsForward rs s n q ys → (r ≡ q) × (zs ≡ ys)
  one-answer-forward s n r q zs ys a b = (a.0 ∙ sym b.0, a.1 ∙ sym b.1)

  pub one-answer-count : (w n r q : ℕ) (zs ys : List HopRecord) → MeetsCount rs w n r zs → MeetsCount rs w n q ys → (r ≡ q) × (zs ≡ ys)
  one-answer-count w n r q zs ys a b = (a.0 ∙ sym b.0, a.1 ∙ sym b.1)
