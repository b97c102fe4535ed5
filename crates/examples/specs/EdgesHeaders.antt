-- The header step (document 02, h) at its limits, by lookups that answer what is written beside them: lookups of tables have their own lines. Of the
-- packet that is left, all bytes are given.
use Rattle.std.specs.Prelude.{List, [], ◌∷◌, ◌++◌, ℕ}
use Rattle.routes.specs.Said.{Said, accepted, refused, hop_after, no_route_after}
use Rattle.header.specs.Step.{stepped}
use Rattle.examples.specs.Lines.{ip, Line, ◌gives◌}

pub data Asked : Type 0 where
  step : (ℕ → Said) → List ℕ → Asked
  left : (ℕ → Said) → List ℕ → Asked

unfoldable pub answer : Asked → Said
answer (step look p) = (stepped look p).said
answer (left look p) = accepted (stepped look p).packet

-- a hop, no route, a refusal; and the address that was looked up
abbrev hop : ℕ → Said
hop a = hop_after 3 57

abbrev none : ℕ → Said
none a = no_route_after 1

abbrev off : ℕ → ℕ → Said
off n a = refused n

abbrev asked : ℕ → Said
asked a = hop_after 1 a

-- 192.0.2.1 to 10.1.2.5: the first byte, the time to live, the checksum; and all but the last byte
abbrev short : ℕ → ℕ → ℕ → ℕ → List ℕ
short first life high low =
    first ∷ 0x00 ∷ 0x00 ∷ 0x28 ∷ 0x00 ∷ 0x01 ∷ 0x40 ∷ 0x00 ∷ life ∷ 0x06 ∷ high ∷ low ∷ 0xC0 ∷ 0x00 ∷ 0x02 ∷ 0x01 ∷ 0x0A ∷ 0x01 ∷ 0x02 ∷ []

abbrev whole : ℕ → ℕ → ℕ → ℕ → List ℕ
whole first life high low = short first life high low ++ (0x05 ∷ [])

-- 192.0.2.1 to 10.1.2.200: the identification, the time to live, the checksum
abbrev mend : ℕ → ℕ → ℕ → ℕ → ℕ → List ℕ
mend i j life high low =
    0x45 ∷ 0x00 ∷ 0x00 ∷ 0x28 ∷ i ∷ j ∷ 0x40 ∷ 0x00 ∷ life ∷ 0x11 ∷ high ∷ low ∷ 0xC0 ∷ 0x00 ∷ 0x02 ∷ 0x01 ∷ 0x0A ∷ 0x01 ∷ 0x02 ∷ 0xC8 ∷ []

unfoldable pub edges : List (Line Asked)
edges =
    -- "19, fewer than 20 bytes": 19 of them and 20, and none; 19 before 20, 21, 22 and lookup's
    (step hop (short 0x45 2 0xAA 0xC8) gives refused 19)
    ∷ (step hop (whole 0x45 2 0xAA 0xC8) gives hop_after 3 57)
    ∷ (step hop [] gives refused 19)
    ∷ (step hop (short 0x46 2 0xA9 0xC8) gives refused 19)
    ∷ (step (off 1) (short 0x45 0 0xAA 0xC8) gives refused 19)
    -- "20, version or header length": 45 hex and its neighbours, each with its right checksum; 20 before 21 and 22, and before lookup's
    ∷ (step hop (whole 0x44 2 0xAB 0xC8) gives refused 20)
    ∷ (step hop (whole 0x46 2 0xA9 0xC8) gives refused 20)
    ∷ (step hop (whole 0x35 2 0xBA 0xC8) gives refused 20)
    ∷ (step hop (whole 0x55 2 0x9A 0xC8) gives refused 20)
    ∷ (step hop (whole 0x65 2 0x8A 0xC8) gives refused 20)
    ∷ (step hop (whole 0x46 2 0xAA 0xC8) gives refused 20)
    ∷ (step (off 1) (whole 0x46 1 0xAA 0xC8) gives refused 20)
    -- "21, checksum": one more and one less; 21 before 22 and lookup's
    ∷ (step hop (whole 0x45 2 0xAA 0xC9) gives refused 21)
    ∷ (step hop (whole 0x45 2 0xAA 0xC7) gives refused 21)
    ∷ (step hop (whole 0x45 2 0xC8 0xAA) gives refused 21)
    ∷ (step (off 2) (whole 0x45 1 0xAA 0xC8) gives refused 21)
    -- 0000 and FFFF are both zero, and no other is
    ∷ (step hop (mend 0x6B 0xFB 0x40 0x00 0x00) gives hop_after 3 57)
    ∷ (step hop (mend 0x6B 0xFB 0x40 0xFF 0xFF) gives hop_after 3 57)
    ∷ (step hop (mend 0x6B 0xFB 0x40 0xFF 0xFE) gives refused 21)
    ∷ (step hop (mend 0x6B 0xFB 0x40 0x00 0x01) gives refused 21)
    -- "22, time to live 0 or 1", each with its right checksum; 22 before lookup's
    ∷ (step hop (whole 0x45 0 0xAC 0xC8) gives refused 22)
    ∷ (step hop (whole 0x45 1 0xAB 0xC8) gives refused 22)
    ∷ (step hop (whole 0x45 255 0xAD 0xC7) gives hop_after 3 57)
    ∷ (step (off 5) (whole 0x45 1 0xAB 0xC8) gives refused 22)
    -- then what the lookup of the destination answers
    ∷ (step asked (whole 0x45 2 0xAA 0xC8) gives hop_after 1 (ip 10 1 2 5))
    ∷ (step none (whole 0x45 2 0xAA 0xC8) gives no_route_after 1)
    ∷ (step (off 1) (whole 0x45 2 0xAA 0xC8) gives refused 1)
    ∷ (step (off 2) (whole 0x45 2 0xAA 0xC8) gives refused 2)
    ∷ (step (off 5) (whole 0x45 2 0xAA 0xC8) gives refused 5)
    -- "lowers the time to live by one and mends the checksum": 2 and 255
    ∷ (left hop (whole 0x45 2 0xAA 0xC8) gives accepted (whole 0x45 1 0xAB 0xC8))
    ∷ (left hop (whole 0x45 255 0xAD 0xC7) gives accepted (whole 0x45 254 0xAE 0xC7))
    -- to 0000, and to its neighbours; from 0000, and from FFFF
    ∷ (left hop (mend 0x6C 0xFB 0x40 0xFE 0xFF) gives accepted (mend 0x6C 0xFB 0x3F 0x00 0x00))
    ∷ (left hop (mend 0x6C 0xFA 0x40 0xFF 0x00) gives accepted (mend 0x6C 0xFA 0x3F 0x00 0x01))
    ∷ (left hop (mend 0x6C 0xFC 0x40 0xFE 0xFE) gives accepted (mend 0x6C 0xFC 0x3F 0xFF 0xFE))
    ∷ (left hop (mend 0x6B 0xFB 0x40 0x00 0x00) gives accepted (mend 0x6B 0xFB 0x3F 0x01 0x00))
    ∷ (left hop (mend 0x6B 0xFB 0x40 0xFF 0xFF) gives accepted (mend 0x6B 0xFB 0x3F 0x01 0x00))
    -- bytes after the first 20
    ∷ (left hop (whole 0x45 2 0xAA 0xC8 ++ (0xDE ∷ 0xAD ∷ 0xBE ∷ 0xEF ∷ [])) gives accepted (whole 0x45 1 0xAB 0xC8 ++ (0xDE ∷ 0xAD ∷ 0xBE ∷ 0xEF ∷ [])))
    -- "No route leaves the header as it was", and so do refusals
    ∷ (left none (whole 0x45 2 0xAA 0xC8) gives accepted (whole 0x45 2 0xAA 0xC8))
    ∷ (left (off 5) (whole 0x45 2 0xAA 0xC8) gives accepted (whole 0x45 2 0xAA 0xC8))
    ∷ (left hop (short 0x45 2 0xAA 0xC8) gives accepted (short 0x45 2 0xAA 0xC8))
    ∷ (left hop (whole 0x46 2 0xA9 0xC8) gives accepted (whole 0x46 2 0xA9 0xC8))
    ∷ (left hop (whole 0x45 2 0xAA 0xC9) gives accepted (whole 0x45 2 0xAA 0xC9))
    ∷ (left hop (whole 0x45 1 0xAB 0xC8) gives accepted (whole 0x45 1 0xAB 0xC8))
    ∷ []
