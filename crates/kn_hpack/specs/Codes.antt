-- The Huffman code (RFC 7541, section 5.2 and appendix B): canonical, from the lengths of its codes.
use Rattle.std.specs.Prelude.{◌≡◌, ℕ, ◌+◌, ◌*◌, ◌-◌, ◌/◌, ◌%◌, ◌^◌, ◌≤◌, ◌==◌, List, [], ◌∷◌, ◌++◌, length, replicate, zero, suc, if◌then◌else◌}
use Rattle.std.specs.List.{flat_map}

-- the symbols by the length of their codes; 256 is the end of a string
unfoldable pub symbols : List (ℕ × List ℕ)
symbols =
    (5, 48 ∷ 49 ∷ 50 ∷ 97 ∷ 99 ∷ 101 ∷ 105 ∷ 111 ∷ 115 ∷ 116 ∷ []) ∷
    (6, 32 ∷ 37 ∷ 45 ∷ 46 ∷ 47 ∷ 51 ∷ 52 ∷ 53 ∷ 54 ∷ 55 ∷ 56 ∷ 57 ∷ 61 ∷ 65 ∷ 95 ∷ 98 ∷ 100 ∷ 102 ∷ 103 ∷ 104 ∷ 108 ∷ 109 ∷ 110 ∷ 112 ∷ 114 ∷ 117 ∷ []) ∷
    (7, 58 ∷ 66 ∷ 67 ∷ 68 ∷ 69 ∷ 70 ∷ 71 ∷ 72 ∷ 73 ∷ 74 ∷ 75 ∷ 76 ∷ 77 ∷ 78 ∷ 79 ∷ 80 ∷ 81 ∷ 82 ∷ 83 ∷ 84 ∷ 85 ∷ 86 ∷ 87 ∷ 89 ∷ 106 ∷ 107 ∷ 113 ∷ 118 ∷ 119 ∷ 120 ∷ 121 ∷ 122 ∷ []) ∷
    (8, 38 ∷ 42 ∷ 44 ∷ 59 ∷ 88 ∷ 90 ∷ []) ∷
    (10, 33 ∷ 34 ∷ 40 ∷ 41 ∷ 63 ∷ []) ∷
    (11, 39 ∷ 43 ∷ 124 ∷ []) ∷
    (12, 35 ∷ 62 ∷ []) ∷
    (13, 0 ∷ 36 ∷ 64 ∷ 91 ∷ 93 ∷ 126 ∷ []) ∷
    (14, 94 ∷ 125 ∷ []) ∷
    (15, 60 ∷ 96 ∷ 123 ∷ []) ∷
    (19, 92 ∷ 195 ∷ 208 ∷ []) ∷
    (20, 128 ∷ 130 ∷ 131 ∷ 162 ∷ 184 ∷ 194 ∷ 224 ∷ 226 ∷ []) ∷
    (21, 153 ∷ 161 ∷ 167 ∷ 172 ∷ 176 ∷ 177 ∷ 179 ∷ 209 ∷ 216 ∷ 217 ∷ 227 ∷ 229 ∷ 230 ∷ []) ∷
    (22, 129 ∷ 132 ∷ 133 ∷ 134 ∷ 136 ∷ 146 ∷ 154 ∷ 156 ∷ 160 ∷ 163 ∷ 164 ∷ 169 ∷ 170 ∷ 173 ∷ 178 ∷ 181 ∷ 185 ∷ 186 ∷ 187 ∷ 189 ∷ 190 ∷ 196 ∷ 198 ∷ 228 ∷ 232 ∷ 233 ∷ []) ∷
    (23, 1 ∷ 135 ∷ 137 ∷ 138 ∷ 139 ∷ 140 ∷ 141 ∷ 143 ∷ 147 ∷ 149 ∷ 150 ∷ 151 ∷ 152 ∷ 155 ∷ 157 ∷ 158 ∷ 165 ∷ 166 ∷ 168 ∷ 174 ∷ 175 ∷ 180 ∷ 182 ∷ 183 ∷ 188 ∷ 191 ∷ 197 ∷ 231 ∷ 239 ∷ []) ∷
    (24, 9 ∷ 142 ∷ 144 ∷ 145 ∷ 148 ∷ 159 ∷ 171 ∷ 206 ∷ 215 ∷ 225 ∷ 236 ∷ 237 ∷ []) ∷
    (25, 199 ∷ 207 ∷ 234 ∷ 235 ∷ []) ∷
    (26, 192 ∷ 193 ∷ 200 ∷ 201 ∷ 202 ∷ 205 ∷ 210 ∷ 213 ∷ 218 ∷ 219 ∷ 238 ∷ 240 ∷ 242 ∷ 243 ∷ 255 ∷ []) ∷
    (27, 203 ∷ 204 ∷ 211 ∷ 212 ∷ 214 ∷ 221 ∷ 222 ∷ 223 ∷ 241 ∷ 244 ∷ 245 ∷ 246 ∷ 247 ∷ 248 ∷ 250 ∷ 251 ∷ 252 ∷ 253 ∷ 254 ∷ []) ∷
    (28, 2 ∷ 3 ∷ 4 ∷ 5 ∷ 6 ∷ 7 ∷ 8 ∷ 11 ∷ 12 ∷ 14 ∷ 15 ∷ 16 ∷ 17 ∷ 18 ∷ 19 ∷ 20 ∷ 21 ∷ 23 ∷ 24 ∷ 25 ∷ 26 ∷ 27 ∷ 28 ∷ 29 ∷ 30 ∷ 31 ∷ 127 ∷ 220 ∷ 249 ∷ []) ∷
    (30, 10 ∷ 13 ∷ 22 ∷ 256 ∷ []) ∷
    []

-- a symbol, and its code: how many bits, and the number that they make
pub record Code : Type 0 where
  pub symbol : ℕ
  pub len : ℕ
  pub value : ℕ

-- codes of one length, each one more than the last
abbrev pub row : ℕ → ℕ → List ℕ → List Code
row len value [] = []
row len value (s ∷ ss) = record { symbol = s; len = len; value = value } ∷ row len (value + 1) ss

-- codes in order, where the length before was `len` and the next code of that length is `next`: zero bits are
-- appended where the length grows
abbrev pub codes_from : ℕ → ℕ → List (ℕ × List ℕ) → List Code
codes_from len next [] = []
codes_from len next (r ∷ rs) = row r.0 (next * 2 ^ (r.0 - len)) r.1 ++ codes_from r.0 (next * 2 ^ (r.0 - len) + length r.1) rs

unfoldable pub codes : List Code
codes = codes_from 0 0 symbols

-- the lowest bits of a number, the highest of them first
unfoldable pub bits : ℕ → ℕ → List ℕ
bits zero n = []
bits (suc k) n = ((n / 2 ^ k) % 2) ∷ bits k n

abbrev pub find : ℕ → List Code → List ℕ
find s [] = []
find s (c ∷ cs) = if c.symbol == s then bits c.len c.value else find s cs

-- the code of a symbol
unfoldable pub code_of : ℕ → List ℕ
code_of s = find s codes

-- the codes of a text, joined
abbrev pub join : List ℕ → List ℕ
join text = flat_map code_of text

-- the bits are the join of the codes of the text, and at most seven one bits
pub record Huff (text : List ℕ) (bs : List ℕ) : Type 0 where
  pub count : ℕ
  pub few : count ≤ 7
  pub joined : bs ≡ join text ++ replicate count 1

-- the bits of bytes
abbrev pub bits_of : List ℕ → List ℕ
bits_of bytes = flat_map (bits 8) bytes
