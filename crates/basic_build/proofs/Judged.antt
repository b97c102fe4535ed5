-- What a build of bit maps says: what stands beside the case that holds (`BasicBuild`, specs/Built.antt), and nothing else.
use mathlib.Core.Path.{◌≡◌, refl}
use mathlib.Core.Bool.{false, true≢false}
use mathlib.Core.List.{List}
use Prim.Native.Nat.{ℕ}
use Rattle.routes.specs.Record.{routes_in}
use Rattle.routes.specs.Said.{Said, accepts}
use Rattle.basic.proofs.Judged.{unready-only, unready-refuses, prepared-only, ready-judged}
use Rattle.basic_build.specs.Built.{maps_after, basic_built, BasicBuild}

module _ (s bs cs : List ℕ) where
  pub build-only : (x : Said) → BasicBuild s bs cs x → (basic_built s bs cs).said ≡ x
  unfolding basic_built
  build-only _ (BasicBuild.unready x u) = rw (unready-only s bs cs x u) (off x (unready-refuses u))
    where
      off : (x : Said) → accepts x ≡ false → (maps_after x (routes_in s) bs cs).said ≡ x
      off (Said.accepted vs) h = absurd (true≢false h)
      off (Said.refused n) h = refl
      off (Said.refused_at n k) h = refl
  build-only x (BasicBuild.done p) = rw (prepared-only s bs cs p)

  pub build-judged : BasicBuild s bs cs (basic_built s bs cs).said
  build-judged = ready-judged s bs cs (BasicBuild s bs cs (basic_built s bs cs).said) (λ x u. told (BasicBuild.unready x u)) (λ p. told (BasicBuild.done p))
    where
      told : {x : Said} → BasicBuild s bs cs x → BasicBuild s bs cs (basic_built s bs cs).said
      told c = rw (build-only _ c) c
