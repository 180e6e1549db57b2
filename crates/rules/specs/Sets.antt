-- `from_section`: the program kind of a section's text. `allowed_ctx_methods`: the set of methods of each kind.
use Rattle.std.specs.Prelude.{Bool, true, false, cond, ◌||◌, List, [], ◌∷◌, ℕ, length, take, get_or, eqb}
use Rattle.rules.specs.Text.{bytes}
use Rattle.rules.specs.Kinds.{same_bytes}

-- The kinds of programs in source order.
abbrev pub Xdp : ℕ
Xdp = 0

abbrev pub Tc : ℕ
Tc = 1

abbrev pub Socket : ℕ
Socket = 2

abbrev pub Cgroup : ℕ
Cgroup = 3

abbrev pub Kprobe : ℕ
Kprobe = 4

abbrev pub Tracepoint : ℕ
Tracepoint = 5

abbrev pub RawTracepoint : ℕ
RawTracepoint = 6

abbrev pub Fentry : ℕ
Fentry = 7

abbrev pub Fexit : ℕ
Fexit = 8

abbrev pub Lsm : ℕ
Lsm = 9

abbrev pub Unknown : ℕ
Unknown = 10

abbrev pub program_kinds : List ℕ
program_kinds =
    Xdp ∷ Tc ∷ Socket ∷ Cgroup ∷ Kprobe ∷ Tracepoint ∷ RawTracepoint ∷ Fentry ∷ Fexit ∷ Lsm ∷ Unknown ∷ []

pub record Section : Type 0 where
  pub whole : Bool
  pub spelling : List ℕ
  pub kind : ℕ

-- a section's text is the spelling, or begins with it
unfoldable pub sections : List Section
sections =
    record { whole = true; spelling = bytes "xdp"; kind = Xdp }
    ∷ record { whole = true; spelling = bytes "tc"; kind = Tc }
    ∷ record { whole = true; spelling = bytes "classifier"; kind = Tc }
    ∷ record { whole = false; spelling = bytes "tc"; kind = Tc }
    ∷ record { whole = false; spelling = bytes "sk_"; kind = Socket }
    ∷ record { whole = false; spelling = bytes "cgroup/"; kind = Cgroup }
    ∷ record { whole = false; spelling = bytes "kprobe/"; kind = Kprobe }
    ∷ record { whole = false; spelling = bytes "kretprobe/"; kind = Kprobe }
    ∷ record { whole = false; spelling = bytes "tracepoint/"; kind = Tracepoint }
    ∷ record { whole = false; spelling = bytes "raw_tracepoint/"; kind = RawTracepoint }
    ∷ record { whole = false; spelling = bytes "fentry/"; kind = Fentry }
    ∷ record { whole = false; spelling = bytes "fexit/"; kind = Fexit }
    ∷ record { whole = false; spelling = bytes "lsm/"; kind = Lsm }
    ∷ []

unfoldable pub fits : Section → List ℕ → Bool
fits e w = same_bytes e.spelling (cond e.whole w (take (length e.spelling) w))

unfoldable pub kind_of_section : List Section → List ℕ → ℕ
kind_of_section [] w = Unknown
kind_of_section (e ∷ es) w = elim (fits e w) [ true ↦ e.kind | false ↦ kind_of_section es w ]

unfoldable pub from_section : List ℕ → ℕ
from_section w = kind_of_section sections w

-- The methods in source order.
abbrev pub LoadU8 : ℕ
LoadU8 = 0

abbrev pub LoadU16 : ℕ
LoadU16 = 1

abbrev pub LoadU32 : ℕ
LoadU32 = 2

abbrev pub LoadU64 : ℕ
LoadU64 = 3

abbrev pub LoadI8 : ℕ
LoadI8 = 4

abbrev pub LoadI16 : ℕ
LoadI16 = 5

abbrev pub LoadI32 : ℕ
LoadI32 = 6

abbrev pub LoadI64 : ℕ
LoadI64 = 7

abbrev pub LoadBytes : ℕ
LoadBytes = 8

abbrev pub GetPidTgid : ℕ
GetPidTgid = 9

abbrev pub GetUidGid : ℕ
GetUidGid = 10

abbrev pub GetCurrentComm : ℕ
GetCurrentComm = 11

abbrev pub GetCurrentTask : ℕ
GetCurrentTask = 12

abbrev pub GetKtimeNs : ℕ
GetKtimeNs = 13

abbrev pub ProbeReadUserStr : ℕ
ProbeReadUserStr = 14

abbrev pub ProbeReadKernelStr : ℕ
ProbeReadKernelStr = 15

-- The methods that each kind allows, as the source lists them: Xdp first, Unknown last.
unfoldable pub allowed : List (List ℕ)
allowed =
    (LoadU8 ∷ LoadU16 ∷ LoadU32 ∷ LoadU64 ∷ LoadI8 ∷ LoadI16 ∷ LoadI32 ∷ LoadI64 ∷ [])
    ∷ (LoadU8 ∷ LoadU16 ∷ LoadU32 ∷ LoadU64 ∷ [])
    ∷ (LoadU8 ∷ LoadU16 ∷ LoadU32 ∷ [])
    ∷ (LoadU32 ∷ LoadU64 ∷ [])
    ∷ (LoadU64 ∷ GetPidTgid ∷ GetUidGid ∷ ProbeReadUserStr ∷ ProbeReadKernelStr ∷ [])
    ∷ (LoadU8 ∷ LoadU16 ∷ LoadU32 ∷ LoadU64 ∷ LoadI8 ∷ LoadI16 ∷ LoadI32 ∷ LoadI64 ∷ LoadBytes ∷ GetPidTgid ∷ GetUidGid ∷
    GetCurrentComm ∷ GetCurrentTask ∷ GetKtimeNs ∷ ProbeReadUserStr ∷ ProbeReadKernelStr ∷ [])
    ∷ (LoadU64 ∷ ProbeReadUserStr ∷ ProbeReadKernelStr ∷ [])
    ∷ (LoadU64 ∷ [])
    ∷ (LoadU64 ∷ [])
    ∷ (LoadU64 ∷ [])
    ∷ []
    ∷ []

unfoldable pub member : ℕ → List ℕ → Bool
member m [] = false
member m (x ∷ xs) = eqb m x || member m xs

-- "membership is by method 0 to 15, and the size of a kind's set is the number of ones"
unfoldable pub allows : ℕ → ℕ → Bool
allows kind method = member method (get_or allowed kind [])

unfoldable pub set_size : ℕ → ℕ
set_size kind = length (get_or allowed kind [])
