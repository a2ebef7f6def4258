-- Table 10 of the psABI 2.01 (document 000), as documents 01 and 02 read it: what each relocation type does, as data, line by line in
-- its order.
use Rattle.std.specs.Prelude.{ℕ, cond, List, [], ◌∷◌, ℤ, pos, neg_ℤ, eqb}

-- The values that a symbol has, in the order of its row's words: S is mask bit 0, up to bit 5 for GD.
pub data Value : Type 0 where
  S G PLT T IE GD : Value

-- A value alone, with the addend, or with GP: the sums that the formulas speak of, by their names in the psABI.
pub data Sum : Type 0 where
  only with_A with_GP : Value → Sum

abbrev pub S+A : Sum
S+A = with_A S

abbrev pub GP+G : Sum
GP+G = with_GP G

abbrev pub GP+IE : Sum
GP+IE = with_GP IE

abbrev pub GP+GD : Sum
GP+GD = with_GP GD

-- A formula on a sum X. `pages X`: X, after adding 800h, with its low 12 bits cleared, less PC with its low 12 bits cleared.
-- `far X`: X less PC with its low 32 bits cleared.
infix 80 ◌-PC
pub data Formula : Type 0 where
  whole : Sum → Formula
  ◌-PC : Sum → Formula
  pages far : Sum → Formula

-- The operations on the stack's entries: 24 and 30 to 37.
pub data Operation : Type 0 where
  dup assert not sub sl sr add and if_else : Operation

-- One part of a field, `bits 22 ⋯ 18 to 4 ⋯ 0`: the value's bits [22..18] go to the word's bits [4..0].
infix 70 bits◌⋯◌to◌⋯◌
pub data Part : Type 0 where
  bits◌⋯◌to◌⋯◌ : ℕ → ℕ → ℕ → ℕ → Part

-- The accepted values: all from the first to the second; those of an n-bit signed number, and of these the multiples of 4; any.
infix 70 from◌to◌
pub data Accepted : Type 0 where
  from◌to◌ : ℤ → ℤ → Accepted
  signed_multiple_of_4 : ℕ → Accepted
  any : Accepted

-- Where a word's value comes from.
pub data Source : Type 0 where
  stack : Source
  of : Formula → Source

-- What happens to the bytes at a data record's place.
pub data Way : Type 0 where
  store_in add_to subtract_from : Way

-- What a type does: nothing; what the run-time loader does; push a formula's value; an operation on the stack; rewrite a field of
-- a word; rewrite 1 to 8 bytes. A type that the table does not name is `unnamed`.
pub data Semantics : Type 0 where
  unnamed idle loaders : Semantics
  push : Formula → Semantics
  operation : Operation → Semantics
  word : Source → List Part → Accepted → Semantics
  bytes : Way → ℕ → Formula → Semantics

pub data Named : Type 0 where
  type : ℕ → Semantics → Named

abbrev pub neg : ℕ → ℤ
neg n = neg_ℤ (pos n)

-- The fields of the types with no range check, in the order in which each family of four has them.
abbrev pub HI20 : List Part
HI20 = bits 31 ⋯ 12 to 24 ⋯ 5 ∷ []

abbrev pub LO12 : List Part
LO12 = bits 11 ⋯ 0 to 21 ⋯ 10 ∷ []

abbrev pub 64-LO20 : List Part
64-LO20 = bits 51 ⋯ 32 to 24 ⋯ 5 ∷ []

abbrev pub 64-HI12 : List Part
64-HI12 = bits 63 ⋯ 52 to 21 ⋯ 10 ∷ []

unfoldable pub table : List Named
table =
    -- R_LARCH_NONE
    type 0 idle ∷
    -- R_LARCH_32: *(int32_t *) PC = RtAddr + A
    type 1 (bytes store_in 4 (whole S+A)) ∷
    -- R_LARCH_64: *(int64_t *) PC = RtAddr + A
    type 2 (bytes store_in 8 (whole S+A)) ∷
    -- R_LARCH_RELATIVE
    type 3 loaders ∷
    -- R_LARCH_COPY
    type 4 loaders ∷
    -- R_LARCH_JMP_SLOT
    type 5 loaders ∷
    -- R_LARCH_TLS_DTPMOD32
    type 6 loaders ∷
    -- R_LARCH_TLS_DTPMOD64
    type 7 loaders ∷
    -- R_LARCH_TLS_DTPREL32
    type 8 loaders ∷
    -- R_LARCH_TLS_DTPREL64
    type 9 loaders ∷
    -- R_LARCH_TLS_TPREL32
    type 10 loaders ∷
    -- R_LARCH_TLS_TPREL64
    type 11 loaders ∷
    -- R_LARCH_IRELATIVE
    type 12 loaders ∷
    -- R_LARCH_MARK_LA
    type 20 idle ∷
    -- R_LARCH_MARK_PCREL
    type 21 idle ∷
    -- R_LARCH_SOP_PUSH_PCREL: S - PC + A
    type 22 (push (S+A -PC)) ∷
    -- R_LARCH_SOP_PUSH_ABSOLUTE
    type 23 (push (whole S+A)) ∷
    -- R_LARCH_SOP_PUSH_DUP
    type 24 (operation dup) ∷
    -- R_LARCH_SOP_PUSH_GPREL
    type 25 (push (whole (only G))) ∷
    -- R_LARCH_SOP_PUSH_TLS_TPREL
    type 26 (push (whole (only T))) ∷
    -- R_LARCH_SOP_PUSH_TLS_GOT
    type 27 (push (whole (only IE))) ∷
    -- R_LARCH_SOP_PUSH_TLS_GD
    type 28 (push (whole (only GD))) ∷
    -- R_LARCH_SOP_PUSH_PLT_PCREL
    type 29 (push (only PLT -PC)) ∷
    -- R_LARCH_SOP_ASSERT
    type 30 (operation assert) ∷
    -- R_LARCH_SOP_NOT
    type 31 (operation not) ∷
    -- R_LARCH_SOP_SUB
    type 32 (operation sub) ∷
    -- R_LARCH_SOP_SL
    type 33 (operation sl) ∷
    -- R_LARCH_SOP_SR
    type 34 (operation sr) ∷
    -- R_LARCH_SOP_ADD
    type 35 (operation add) ∷
    -- R_LARCH_SOP_AND
    type 36 (operation and) ∷
    -- R_LARCH_SOP_IF_ELSE
    type 37 (operation if_else) ∷
    -- R_LARCH_SOP_POP_32_S_10_5
    type 38 (word stack (bits 4 ⋯ 0 to 14 ⋯ 10 ∷ []) (from (neg 16) to (pos 15))) ∷
    -- R_LARCH_SOP_POP_32_U_10_12
    type 39 (word stack (bits 11 ⋯ 0 to 21 ⋯ 10 ∷ []) (from (pos 0) to (pos 4095))) ∷
    -- R_LARCH_SOP_POP_32_S_10_12
    type 40 (word stack (bits 11 ⋯ 0 to 21 ⋯ 10 ∷ []) (from (neg 2048) to (pos 2047))) ∷
    -- R_LARCH_SOP_POP_32_S_10_16
    type 41 (word stack (bits 15 ⋯ 0 to 25 ⋯ 10 ∷ []) (from (neg 32768) to (pos 32767))) ∷
    -- R_LARCH_SOP_POP_32_S_10_16_S2
    type 42 (word stack (bits 17 ⋯ 2 to 25 ⋯ 10 ∷ []) (signed_multiple_of_4 18)) ∷
    -- R_LARCH_SOP_POP_32_S_5_20
    type 43 (word stack (bits 19 ⋯ 0 to 24 ⋯ 5 ∷ []) (from (neg 524288) to (pos 524287))) ∷
    -- R_LARCH_SOP_POP_32_S_0_5_10_16_S2
    type 44 (word stack (bits 22 ⋯ 18 to 4 ⋯ 0 ∷ bits 17 ⋯ 2 to 25 ⋯ 10 ∷ []) (signed_multiple_of_4 23)) ∷
    -- R_LARCH_SOP_POP_32_S_0_10_10_16_S2
    type 45 (word stack (bits 27 ⋯ 18 to 9 ⋯ 0 ∷ bits 17 ⋯ 2 to 25 ⋯ 10 ∷ []) (signed_multiple_of_4 28)) ∷
    -- R_LARCH_SOP_POP_32_U
    type 46 (word stack (bits 31 ⋯ 0 to 31 ⋯ 0 ∷ []) (from (pos 0) to (pos 4294967295))) ∷
    -- R_LARCH_ADD8
    type 47 (bytes add_to 1 (whole S+A)) ∷
    -- R_LARCH_ADD16
    type 48 (bytes add_to 2 (whole S+A)) ∷
    -- R_LARCH_ADD24
    type 49 (bytes add_to 3 (whole S+A)) ∷
    -- R_LARCH_ADD32
    type 50 (bytes add_to 4 (whole S+A)) ∷
    -- R_LARCH_ADD64
    type 51 (bytes add_to 8 (whole S+A)) ∷
    -- R_LARCH_SUB8
    type 52 (bytes subtract_from 1 (whole S+A)) ∷
    -- R_LARCH_SUB16
    type 53 (bytes subtract_from 2 (whole S+A)) ∷
    -- R_LARCH_SUB24
    type 54 (bytes subtract_from 3 (whole S+A)) ∷
    -- R_LARCH_SUB32
    type 55 (bytes subtract_from 4 (whole S+A)) ∷
    -- R_LARCH_SUB64
    type 56 (bytes subtract_from 8 (whole S+A)) ∷
    -- R_LARCH_GNU_VTINHERIT
    type 57 idle ∷
    -- R_LARCH_GNU_VTENTRY
    type 58 idle ∷
    -- R_LARCH_B16
    type 64 (word (of (S+A -PC)) (bits 17 ⋯ 2 to 25 ⋯ 10 ∷ []) (signed_multiple_of_4 18)) ∷
    -- R_LARCH_B21
    type 65 (word (of (S+A -PC)) (bits 22 ⋯ 18 to 4 ⋯ 0 ∷ bits 17 ⋯ 2 to 25 ⋯ 10 ∷ []) (signed_multiple_of_4 23)) ∷
    -- R_LARCH_B26
    type 66 (word (of (S+A -PC)) (bits 27 ⋯ 18 to 9 ⋯ 0 ∷ bits 17 ⋯ 2 to 25 ⋯ 10 ∷ []) (signed_multiple_of_4 28)) ∷
    -- R_LARCH_ABS_HI20
    type 67 (word (of (whole S+A)) HI20 any) ∷
    -- R_LARCH_ABS_LO12
    type 68 (word (of (whole S+A)) LO12 any) ∷
    -- R_LARCH_ABS64_LO20
    type 69 (word (of (whole S+A)) 64-LO20 any) ∷
    -- R_LARCH_ABS64_HI12
    type 70 (word (of (whole S+A)) 64-HI12 any) ∷
    -- R_LARCH_PCALA_HI20
    type 71 (word (of (pages S+A)) HI20 any) ∷
    -- R_LARCH_PCALA_LO12
    type 72 (word (of (whole S+A)) LO12 any) ∷
    -- R_LARCH_PCALA64_LO20
    type 73 (word (of (far S+A)) 64-LO20 any) ∷
    -- R_LARCH_PCALA64_HI12
    type 74 (word (of (far S+A)) 64-HI12 any) ∷
    -- R_LARCH_GOT_PC_HI20
    type 75 (word (of (pages GP+G)) HI20 any) ∷
    -- R_LARCH_GOT_PC_LO12
    type 76 (word (of (whole GP+G)) LO12 any) ∷
    -- R_LARCH_GOT64_PC_LO20
    type 77 (word (of (far GP+G)) 64-LO20 any) ∷
    -- R_LARCH_GOT64_PC_HI12
    type 78 (word (of (far GP+G)) 64-HI12 any) ∷
    -- R_LARCH_GOT_HI20
    type 79 (word (of (whole GP+G)) HI20 any) ∷
    -- R_LARCH_GOT_LO12
    type 80 (word (of (whole GP+G)) LO12 any) ∷
    -- R_LARCH_GOT64_LO20
    type 81 (word (of (whole GP+G)) 64-LO20 any) ∷
    -- R_LARCH_GOT64_HI12
    type 82 (word (of (whole GP+G)) 64-HI12 any) ∷
    -- R_LARCH_TLS_LE_HI20
    type 83 (word (of (whole (only T))) HI20 any) ∷
    -- R_LARCH_TLS_LE_LO12
    type 84 (word (of (whole (only T))) LO12 any) ∷
    -- R_LARCH_TLS_LE64_LO20
    type 85 (word (of (whole (only T))) 64-LO20 any) ∷
    -- R_LARCH_TLS_LE64_HI12
    type 86 (word (of (whole (only T))) 64-HI12 any) ∷
    -- R_LARCH_TLS_IE_PC_HI20
    type 87 (word (of (pages GP+IE)) HI20 any) ∷
    -- R_LARCH_TLS_IE_PC_LO12
    type 88 (word (of (whole GP+IE)) LO12 any) ∷
    -- R_LARCH_TLS_IE64_PC_LO20
    type 89 (word (of (far GP+IE)) 64-LO20 any) ∷
    -- R_LARCH_TLS_IE64_PC_HI12
    type 90 (word (of (far GP+IE)) 64-HI12 any) ∷
    -- R_LARCH_TLS_IE_HI20
    type 91 (word (of (whole GP+IE)) HI20 any) ∷
    -- R_LARCH_TLS_IE_LO12
    type 92 (word (of (whole GP+IE)) LO12 any) ∷
    -- R_LARCH_TLS_IE64_LO20
    type 93 (word (of (whole GP+IE)) 64-LO20 any) ∷
    -- R_LARCH_TLS_IE64_HI12
    type 94 (word (of (whole GP+IE)) 64-HI12 any) ∷
    -- R_LARCH_TLS_LD_PC_HI20
    type 95 (word (of (pages GP+GD)) HI20 any) ∷
    -- R_LARCH_TLS_LD_HI20: IE, as 000 prints it
    type 96 (word (of (whole GP+IE)) HI20 any) ∷
    -- R_LARCH_TLS_GD_PC_HI20
    type 97 (word (of (pages GP+GD)) HI20 any) ∷
    -- R_LARCH_TLS_GD_HI20: IE, as 000 prints it
    type 98 (word (of (whole GP+IE)) HI20 any) ∷
    -- R_LARCH_32_PCREL
    type 99 (bytes store_in 4 (S+A -PC)) ∷
    -- R_LARCH_RELAX
    type 100 idle ∷
    []

-- What the table says of a type, or `unnamed`.
unfoldable pub look : List Named → ℕ → Semantics
look [] t = unnamed
look (type n does ∷ more) t = cond (eqb n t) does (look more t)

abbrev pub semantics : ℕ → Semantics
semantics t = look table t
