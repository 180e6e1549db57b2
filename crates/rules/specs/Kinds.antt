-- "Kinds are `TokenKind` numbered in source order: KeywordUnit 0 to Eof 52, 16 to 20 never made."
-- The reserved words and the signs, each with its spelling and kind.
use Rattle.std.specs.Prelude.{Bool, true, false, not, ◌&&◌, List, [], ◌∷◌, ℕ, length, eqb, leb}
use Rattle.rules.specs.Text.{bytes, within}

abbrev pub KeywordUnit : ℕ
KeywordUnit = 0

abbrev pub KeywordSection : ℕ
KeywordSection = 1

abbrev pub KeywordLicense : ℕ
KeywordLicense = 2

abbrev pub KeywordReturn : ℕ
KeywordReturn = 3

abbrev pub KeywordReg : ℕ
KeywordReg = 4

abbrev pub KeywordImm : ℕ
KeywordImm = 5

abbrev pub KeywordMap : ℕ
KeywordMap = 6

abbrev pub KeywordType : ℕ
KeywordType = 7

abbrev pub KeywordKey : ℕ
KeywordKey = 8

abbrev pub KeywordValue : ℕ
KeywordValue = 9

abbrev pub KeywordMax : ℕ
KeywordMax = 10

abbrev pub KeywordIf : ℕ
KeywordIf = 11

abbrev pub KeywordElse : ℕ
KeywordElse = 12

abbrev pub KeywordGuard : ℕ
KeywordGuard = 13

abbrev pub KeywordHeap : ℕ
KeywordHeap = 14

abbrev pub KeywordEvent : ℕ
KeywordEvent = 15

abbrev pub TypeU32 : ℕ
TypeU32 = 21

abbrev pub TypeU64 : ℕ
TypeU64 = 22

abbrev pub TypeI32 : ℕ
TypeI32 = 23

abbrev pub TypeI64 : ℕ
TypeI64 = 24

abbrev pub LBrace : ℕ
LBrace = 25

abbrev pub RBrace : ℕ
RBrace = 26

abbrev pub LParen : ℕ
LParen = 27

abbrev pub RParen : ℕ
RParen = 28

abbrev pub Colon : ℕ
Colon = 29

abbrev pub Dot : ℕ
Dot = 30

abbrev pub Comma : ℕ
Comma = 31

abbrev pub Semicolon : ℕ
Semicolon = 32

abbrev pub LBracket : ℕ
LBracket = 33

abbrev pub RBracket : ℕ
RBracket = 34

abbrev pub Equals : ℕ
Equals = 35

abbrev pub PlusEquals : ℕ
PlusEquals = 36

abbrev pub MinusEquals : ℕ
MinusEquals = 37

abbrev pub StarEquals : ℕ
StarEquals = 38

abbrev pub SlashEquals : ℕ
SlashEquals = 39

abbrev pub PercentEquals : ℕ
PercentEquals = 40

abbrev pub Plus : ℕ
Plus = 41

abbrev pub Minus : ℕ
Minus = 42

abbrev pub Star : ℕ
Star = 43

abbrev pub Slash : ℕ
Slash = 44

abbrev pub Percent : ℕ
Percent = 45

abbrev pub Shr : ℕ
Shr = 46

abbrev pub Shl : ℕ
Shl = 47

abbrev pub Identifier : ℕ
Identifier = 48

abbrev pub StringLiteral : ℕ
StringLiteral = 49

abbrev pub Number : ℕ
Number = 50

abbrev pub KeywordBytes : ℕ
KeywordBytes = 51

abbrev pub Eof : ℕ
Eof = 52

-- 16 to 20 are never made
abbrev pub first_unmade : ℕ
first_unmade = 16

abbrev pub last_unmade : ℕ
last_unmade = 20

-- all of them, and then the bounds of those never made, as the code lists its own
abbrev pub row_kinds : List ℕ
row_kinds =
    KeywordUnit ∷ KeywordSection ∷ KeywordLicense ∷ KeywordReturn ∷ KeywordReg ∷ KeywordImm ∷ KeywordMap ∷ KeywordType ∷ KeywordKey ∷ KeywordValue ∷
    KeywordMax ∷ KeywordIf ∷ KeywordElse ∷ KeywordGuard ∷ KeywordHeap ∷ KeywordEvent ∷ TypeU32 ∷ TypeU64 ∷ TypeI32 ∷ TypeI64 ∷ LBrace ∷ RBrace ∷
    LParen ∷ RParen ∷ Colon ∷ Dot ∷ Comma ∷ Semicolon ∷ LBracket ∷ RBracket ∷ Equals ∷ PlusEquals ∷ MinusEquals ∷ StarEquals ∷ SlashEquals ∷
    PercentEquals ∷ Plus ∷ Minus ∷ Star ∷ Slash ∷ Percent ∷ Shr ∷ Shl ∷ Identifier ∷ StringLiteral ∷ Number ∷ KeywordBytes ∷ Eof ∷ first_unmade ∷
    last_unmade ∷ []

-- the kinds that are made
unfoldable pub is_made : ℕ → Bool
is_made k = leb k Eof && not (within first_unmade last_unmade k)

pub record Spelt : Type 0 where
  pub spelling : List ℕ
  pub kind : ℕ

-- The 21 reserved words form one constant table of spellings.
unfoldable pub reserved : List Spelt
reserved =
    record { spelling = bytes "unit"; kind = KeywordUnit }
    ∷ record { spelling = bytes "section"; kind = KeywordSection }
    ∷ record { spelling = bytes "license"; kind = KeywordLicense }
    ∷ record { spelling = bytes "return"; kind = KeywordReturn }
    ∷ record { spelling = bytes "reg"; kind = KeywordReg }
    ∷ record { spelling = bytes "imm"; kind = KeywordImm }
    ∷ record { spelling = bytes "map"; kind = KeywordMap }
    ∷ record { spelling = bytes "type"; kind = KeywordType }
    ∷ record { spelling = bytes "key"; kind = KeywordKey }
    ∷ record { spelling = bytes "value"; kind = KeywordValue }
    ∷ record { spelling = bytes "max"; kind = KeywordMax }
    ∷ record { spelling = bytes "if"; kind = KeywordIf }
    ∷ record { spelling = bytes "else"; kind = KeywordElse }
    ∷ record { spelling = bytes "guard"; kind = KeywordGuard }
    ∷ record { spelling = bytes "heap"; kind = KeywordHeap }
    ∷ record { spelling = bytes "event"; kind = KeywordEvent }
    ∷ record { spelling = bytes "bytes"; kind = KeywordBytes }
    ∷ record { spelling = bytes "u32"; kind = TypeU32 }
    ∷ record { spelling = bytes "u64"; kind = TypeU64 }
    ∷ record { spelling = bytes "i32"; kind = TypeI32 }
    ∷ record { spelling = bytes "i64"; kind = TypeI64 }
    ∷ []

-- the signs
unfoldable pub signs : List Spelt
signs =
    record { spelling = bytes "{"; kind = LBrace }
    ∷ record { spelling = bytes "}"; kind = RBrace }
    ∷ record { spelling = bytes "("; kind = LParen }
    ∷ record { spelling = bytes ")"; kind = RParen }
    ∷ record { spelling = bytes ":"; kind = Colon }
    ∷ record { spelling = bytes "."; kind = Dot }
    ∷ record { spelling = bytes ","; kind = Comma }
    ∷ record { spelling = bytes ";"; kind = Semicolon }
    ∷ record { spelling = bytes "["; kind = LBracket }
    ∷ record { spelling = bytes "]"; kind = RBracket }
    ∷ record { spelling = bytes "="; kind = Equals }
    ∷ record { spelling = bytes "+="; kind = PlusEquals }
    ∷ record { spelling = bytes "-="; kind = MinusEquals }
    ∷ record { spelling = bytes "*="; kind = StarEquals }
    ∷ record { spelling = bytes "/="; kind = SlashEquals }
    ∷ record { spelling = bytes "%="; kind = PercentEquals }
    ∷ record { spelling = bytes "+"; kind = Plus }
    ∷ record { spelling = bytes "-"; kind = Minus }
    ∷ record { spelling = bytes "*"; kind = Star }
    ∷ record { spelling = bytes "/"; kind = Slash }
    ∷ record { spelling = bytes "%"; kind = Percent }
    ∷ record { spelling = bytes ">>"; kind = Shr }
    ∷ record { spelling = bytes "<<"; kind = Shl }
    ∷ []

unfoldable pub same_bytes : List ℕ → List ℕ → Bool
same_bytes [] [] = true
same_bytes [] (y ∷ ys) = false
same_bytes (x ∷ xs) [] = false
same_bytes (x ∷ xs) (y ∷ ys) = eqb x y && same_bytes xs ys

-- the kind that a table gives a spelling, or d
unfoldable pub kind_in : List Spelt → ℕ → List ℕ → ℕ
kind_in [] d w = d
kind_in (e ∷ es) d w = elim (same_bytes e.spelling w) [ true ↦ e.kind | false ↦ kind_in es d w ]

-- how long the spelling is that a table has for a kind, or d
unfoldable pub length_in : List Spelt → ℕ → ℕ → ℕ
length_in [] d k = d
length_in (e ∷ es) d k = elim (eqb e.kind k) [ true ↦ length e.spelling | false ↦ length_in es d k ]
