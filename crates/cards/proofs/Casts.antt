-- A broadcast: what it says has room in its answer, a caller that reads the answer by the header's fields has exactly what the call inside says,
-- and nothing else is in it. Supposed is an input shorter than 2^35 bytes, so that the index of a record has 32 bits.
use mathlib.Core.Path.{◌≡◌}
use mathlib.Core.List.{List}
use Prim.Native.Nat.{ℕ, ◌^◌, ◌<◌}
use native.Mathlib.Omega.{arith}
use lib.ListN.{length}
use Rattle.routes.specs.Said.{Said}
use Rattle.routes.proofs.Meaning.{input-checked}
use Rattle.broadcast.specs.Cast.{cast_said}
use Rattle.broadcast.specs.Meaning.{Casting}
use Rattle.broadcast.proofs.Judged.{cast-judged}
use Rattle.packing.specs.Unpack.{FitsWord}
use Rattle.packing.specs.Parts.{parts}
use Rattle.packing_inputs.specs.Casts.{pack_cast, unpack_cast, CastFits, cast_parts}
use Rattle.packing_inputs.proofs.Casts.{cast-read, cast-parts}
use Rattle.cards.proofs.Fits.{refused-fits}

module _ (version : ℕ) (input : List ℕ) (addr : ℕ) (short : length input < 2 ^ 35) where
  cast_fits : FitsWord (2 ^ 32) CastFits (cast_said version input addr)
  cast_fits = go (cast-judged version input addr)
    where
      go : {x : Said} → Casting version input addr x → FitsWord (2 ^ 32) CastFits x
      go (Casting.bad_version x y) = FitsWord.number 23 (omega arith) (omega arith)
      go (Casting.bad_input w h) = refused-fits CastFits input short (input-checked input) h
      go (Casting.is_one n g b) = FitsWord.values _ (CastFits.which 1 (omega arith))
      go (Casting.is_none w n g h) = FitsWord.values _ (CastFits.which 0 (omega arith))

  pub gh-broadcast-read : unpack_cast (pack_cast (cast_said version input addr)) ≡ cast_said version input addr
  gh-broadcast-read = cast-read (2 ^ 32) (omega arith) _ cast_fits

  pub gh-broadcast-named : pack_cast (cast_said version input addr) ≡ parts cast_parts (pack_cast (cast_said version input addr))
  gh-broadcast-named = cast-parts (2 ^ 32) (omega arith) _ cast_fits
