-- The words of the layout that a node has no row for: those of its kind, and of types.
use Rattle.std.specs.Prelude.{cond, List, [], ◌++◌, ℕ, eqb}
use Rattle.rules.specs.Text.{bytes}
use Rattle.rules.specs.Tree.{MapHash, MapArray, MapRingbuf, MapLruHash}
use Rattle.rules.specs.Nodes.{NodeAssign, NodeReg, NodeImm, NodeSection, FormPlain, FormBytes}
use Rattle.rules_decimal.specs.Decimal.{signed}

-- a type of keys, values and elements
unfoldable pub type_word : ℕ → List ℕ
type_word n = cond (eqb n 1) (bytes "u32 ") (cond (eqb n 2) (bytes "u64 ") (cond (eqb n 3) (bytes "i32 ") (bytes "i64 ")))

-- a type of maps
unfoldable pub map_word : ℕ → List ℕ
map_word n =
    cond (eqb n MapHash) (bytes "hash ")
    (cond (eqb n MapArray) (bytes "array ") (cond (eqb n MapRingbuf) (bytes "ringbuf ")
    (cond (eqb n MapLruHash) (bytes "lru_hash ") (bytes "prog_array "))))

-- a declaration, an assignment, a section or licence
unfoldable pub decl_word : ℕ → List ℕ
decl_word k = cond (eqb k NodeReg) (bytes "reg ") (cond (eqb k NodeImm) (bytes "imm ") (bytes "heap "))

unfoldable pub assign_sign : ℕ → List ℕ
assign_sign k = cond (eqb k NodeAssign) (bytes "= ") (bytes "+= ")

unfoldable pub text_word : ℕ → List ℕ
text_word k = cond (eqb k NodeSection) (bytes "section ") (bytes "license ")

-- a map's key or value, where there is one
unfoldable pub typed_line : List ℕ → ℕ → List ℕ
typed_line head n = cond (eqb n 0) [] (head ++ (type_word n ++ bytes ";\n"))

-- what stands in a map's braces, by its facts
unfoldable pub map_lines : (type key value max : ℕ) → List ℕ
map_lines type key value max =
    bytes "type : . "
    ++ (map_word type
    ++ (bytes ";\n"
    ++ (typed_line (bytes "key : ") key
    ++ (typed_line (bytes "value : ") value ++ (bytes "max : " ++ ((signed max ++ bytes " ") ++ bytes ";\n"))))))

-- what stands behind the name of an event's field, by its facts
unfoldable pub field_words : (form type length : ℕ) → List ℕ
field_words form type length =
    cond (eqb form FormPlain) (bytes ": " ++ (type_word type ++ bytes ";\n"))
    (cond (eqb form FormBytes) (bytes ": bytes [ " ++ ((signed length ++ bytes " ") ++ bytes "] ;\n"))
    (bytes ": " ++ (type_word type ++ (bytes "[ " ++ ((signed length ++ bytes " ") ++ bytes "] ;\n")))))
