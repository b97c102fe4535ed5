-- The limits of geometries and sizes, each on both sides; refusals 1 and 2 of every table call, and 1 where both hold.
use Rattle.std.specs.Prelude.{List, [], ◌∷◌}
use Rattle.routes.specs.Said.{accepted, refused}
use Rattle.sail.specs.Geometry.{standard_geo, small_geo}
use Rattle.sail_theory.specs.Calls.{route}
use Rattle.examples.specs.Lines.{ip, Line, ◌gives◌}
use Rattle.examples.specs.Blank.{Lengths, geo, lengths, counting, Asked, make, load, announce, withdraw, report, lookup}

-- room for 8 records, 2 second chunks and 3 third chunks of the standard geometry
abbrev right : Lengths
right = lengths 64 65536 512 768 2 3

unfoldable pub edges : List (Line Asked)
edges =
    -- "p1 is 12 to 16, p2 is 22 to 26, p2 - p1 at most 10": no room and no chunks
    (make (geo 11 21) (lengths 0 2048 0 0 0 0) gives refused 1)
    ∷ (make (geo 11 22) (lengths 0 2048 0 0 0 0) gives refused 1)
    ∷ (make (geo 12 21) (lengths 0 4096 0 0 0 0) gives refused 1)
    ∷ (make (geo 12 22) (lengths 0 4096 0 0 0 0) gives accepted [])
    ∷ (make (geo 12 23) (lengths 0 4096 0 0 0 0) gives refused 1)
    ∷ (make (geo 13 23) (lengths 0 8192 0 0 0 0) gives accepted [])
    ∷ (make (geo 13 24) (lengths 0 8192 0 0 0 0) gives refused 1)
    ∷ (make (geo 15 25) (lengths 0 32768 0 0 0 0) gives accepted [])
    ∷ (make (geo 15 26) (lengths 0 32768 0 0 0 0) gives refused 1)
    ∷ (make (geo 16 21) (lengths 0 65536 0 0 0 0) gives refused 1)
    ∷ (make (geo 16 22) (lengths 0 65536 0 0 0 0) gives accepted [])
    ∷ (make (geo 16 26) (lengths 0 65536 0 0 0 0) gives accepted [])
    ∷ (make (geo 16 27) (lengths 0 65536 0 0 0 0) gives refused 1)
    ∷ (make (geo 17 22) (lengths 0 131072 0 0 0 0) gives refused 1)
    ∷ (make (geo 17 26) (lengths 0 131072 0 0 0 0) gives refused 1)
    ∷ (make (geo 17 27) (lengths 0 131072 0 0 0 0) gives refused 1)
    ∷ (make (geo 24 16) (lengths 0 65536 0 0 0 0) gives refused 1)
    -- "standard (16, 24), as in the source, and small (12, 22)": 65,536 first cells and chunks of 256; 4,096 first cells and chunks of 1,024
    ∷ (make standard_geo (lengths 8 65536 256 256 1 1) gives accepted [])
    ∷ (make standard_geo (lengths 8 4096 1024 1024 1 1) gives refused 2)
    ∷ (make small_geo (lengths 8 4096 1024 1024 1 1) gives accepted [])
    ∷ (make small_geo (lengths 8 65536 256 256 1 1) gives refused 2)
    -- other geometries: chunks of 2^(p2 - p1) and of 2^(32 - p2) cells
    ∷ (make (geo 16 22) (lengths 8 65536 64 1024 1 1) gives accepted [])
    ∷ (make (geo 16 26) (lengths 8 65536 1024 64 1 1) gives accepted [])
    ∷ (make (geo 14 23) (lengths 8 16384 512 512 1 1) gives accepted [])
    -- each array as it should be, one short, one long
    ∷ (make standard_geo right gives accepted [])
    ∷ (make standard_geo (lengths 63 65536 512 768 2 3) gives refused 2)
    ∷ (make standard_geo (lengths 65 65536 512 768 2 3) gives refused 2)
    ∷ (make standard_geo (lengths 64 65535 512 768 2 3) gives refused 2)
    ∷ (make standard_geo (lengths 64 65537 512 768 2 3) gives refused 2)
    ∷ (make standard_geo (lengths 64 65536 511 768 2 3) gives refused 2)
    ∷ (make standard_geo (lengths 64 65536 513 768 2 3) gives refused 2)
    ∷ (make standard_geo (lengths 64 65536 512 767 2 3) gives refused 2)
    ∷ (make standard_geo (lengths 64 65536 512 769 2 3) gives refused 2)
    ∷ (make standard_geo (lengths 64 65536 512 768 1 3) gives refused 2)
    ∷ (make standard_geo (lengths 64 65536 512 768 3 3) gives refused 2)
    ∷ (make standard_geo (lengths 64 65536 512 768 2 2) gives refused 2)
    ∷ (make standard_geo (lengths 64 65536 512 768 2 4) gives refused 2)
    ∷ (make standard_geo (counting right 65535 512) gives refused 2)
    ∷ (make standard_geo (counting right 65537 512) gives refused 2)
    ∷ (make standard_geo (counting right 65536 511) gives refused 2)
    ∷ (make standard_geo (counting right 65536 513) gives refused 2)
    -- "0 to 4,096 records of room", "0 to 4,096 chunks" in each pool
    ∷ (make standard_geo (lengths 0 65536 0 0 0 0) gives accepted [])
    ∷ (make standard_geo (lengths 32768 65536 0 0 0 0) gives accepted [])
    ∷ (make standard_geo (lengths 32776 65536 0 0 0 0) gives refused 2)
    ∷ (make standard_geo (lengths 8 65536 1048576 0 4096 0) gives accepted [])
    ∷ (make standard_geo (lengths 8 65536 1048832 0 4097 0) gives refused 2)
    ∷ (make standard_geo (lengths 8 65536 0 1048576 0 4096) gives accepted [])
    ∷ (make standard_geo (lengths 8 65536 0 1048832 0 4097) gives refused 2)
    -- 1 and 2 of every call, and 1 where both hold
    ∷ (make (geo 16 27) (lengths 64 65535 512 768 2 3) gives refused 1)
    ∷ (load (geo 16 27) right [] gives refused 1)
    ∷ (load standard_geo (lengths 64 65535 512 768 2 3) [] gives refused 2)
    ∷ (load (geo 16 27) (lengths 64 65535 512 768 2 3) [] gives refused 1)
    ∷ (announce (geo 16 27) right (route (ip 10 0 0 0) 8 20 0) gives refused 1)
    ∷ (announce standard_geo (lengths 64 65535 512 768 2 3) (route (ip 10 0 0 0) 8 20 0) gives refused 2)
    ∷ (announce (geo 16 27) (lengths 64 65535 512 768 2 3) (route (ip 10 0 0 0) 8 20 0) gives refused 1)
    ∷ (withdraw (geo 16 27) right (ip 10 0 0 0) 8 gives refused 1)
    ∷ (withdraw standard_geo (lengths 64 65535 512 768 2 3) (ip 10 0 0 0) 8 gives refused 2)
    ∷ (withdraw (geo 16 27) (lengths 64 65535 512 768 2 3) (ip 10 0 0 0) 8 gives refused 1)
    ∷ (report (geo 16 27) right gives refused 1)
    ∷ (report standard_geo (lengths 64 65535 512 768 2 3) gives refused 2)
    ∷ (report (geo 16 27) (lengths 64 65535 512 768 2 3) gives refused 1)
    ∷ (lookup (geo 16 27) right (ip 10 0 0 1) gives refused 1)
    ∷ (lookup standard_geo (lengths 64 65535 512 768 2 3) (ip 10 0 0 1) gives refused 2)
    ∷ (lookup (geo 16 27) (lengths 64 65535 512 768 2 3) (ip 10 0 0 1) gives refused 1)
    -- one count too few gives 2 in every call
    ∷ (load standard_geo (counting right 65535 512) [] gives refused 2)
    ∷ (announce standard_geo (counting right 65535 512) (route (ip 10 0 0 0) 8 20 0) gives refused 2)
    ∷ (withdraw standard_geo (counting right 65535 512) (ip 10 0 0 0) 8 gives refused 2)
    ∷ (report standard_geo (counting right 65535 512) gives refused 2)
    ∷ (lookup standard_geo (counting right 65535 512) (ip 10 0 0 1) gives refused 2)
    ∷ []
