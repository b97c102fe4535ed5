-- Pieces of text: words, words with a number after them, an address.
use Rattle.std.specs.Prelude.{ℕ, List, [], ◌∷◌, ◌++◌}
use Prim.Native.Char.{code}
use Prim.Native.String.{String, [] as none, ◌∷◌ as more}
use Rattle.bits.specs.Bytes.{above1, above2, above3, byte}
use Rattle.text_pieces.specs.Digits.{digits_of}

-- the bytes of words in ASCII
unfoldable pub ascii : String → List ℕ
ascii none = []
ascii (more c s) = code c ∷ ascii s

-- words, and then a number
unfoldable pub labelled : String → ℕ → List ℕ
labelled words n = ascii words ++ digits_of n

-- an address: its four bytes, with points between them
unfoldable pub dotted : ℕ → List ℕ
dotted a = digits_of (above3 a) ++ labelled "." (byte (above2 a)) ++ labelled "." (byte (above1 a)) ++ labelled "." (byte a)
