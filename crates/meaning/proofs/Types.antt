-- Every type of the table pinned: for each type a call, and the bytes that it leaves, as the independent implementation of tests/host,
-- written from the paper alone, works them out. Its numbers have no pattern, so that a type with another value, formula or field would
-- leave other bytes. A field is written over eight bytes and over the same with every bit turned over: so it is seen which bits it
-- writes and which it keeps.
use Prim.Native.Nat.{ℕ, ◌+◌, ◌/◌}
use mathlib.Core.List.{List, [], ◌∷◌, ◌++◌, map}
use lib.Dec.{T}
use lib.ListN.{length}
use Rattle.meaning.specs.Numbers.{number, bytes_of, cut}
use Rattle.meaning.specs.Table.{Named, type, table, look}
use Rattle.meaning.specs.Field.{put}
use Rattle.meaning.specs.Checks.{first, of_records, of_masks, checks}
use Rattle.meaning.specs.Patch.{patched}
use Rattle.meaning.proofs.Cases.{rela, push, minus, Case, same, holds, all_hold}

-- A line: a type, the records of its call, and what the call answers and leaves.
pub record Line : Type 0 where
  pub pins : ℕ
  pub records : List ℕ
  pub number : ℕ
  pub place : ℕ
  pub offset : ℕ
  pub left : List ℕ

-- each number's eight bytes
pub words : List ℕ → List ℕ
words [] = []
words (x ∷ xs) = bytes_of 8 x ++ words xs

-- a record of a type with no use for a symbol, of which this is none, or for an addend; and of one with no use for an offset either
pub plain : ℕ → ℕ → List ℕ
plain offset t = rela offset t 0xffffffff 1

pub bare : ℕ → List ℕ
bare t = plain (minus 1) t

pub push_all : List ℕ → List ℕ
push_all [] = []
push_all (x ∷ xs) = push x ++ push_all xs

-- what records push, seen in the eight bytes at a place: duplicated, its high half popped into the second word, its low half into the
-- first
pub seen : ℕ → List ℕ → List ℕ
seen at pushing =
    pushing
    ++ bare 24
    ++ (push 32 ++ bare 34 ++ push 0xffffffff ++ bare 36 ++ plain (at + 4) 46)
    ++ (push 0xffffffff ++ bare 36 ++ plain at 46)

-- ---- the kinds of lines: each ends with the two numbers that its call leaves in the section

pub accepted : ℕ → List ℕ → ℕ → ℕ → Line
accepted t records x y = record { pins = t; records = records; number = 0; place = length records / 24; offset = 0; left = words (x ∷ y ∷ []) }

-- a record of the type with a symbol and an addend, at 0 and at 8
pub direct : ℕ → ℕ → ℕ → ℕ → ℕ → Line
direct t symbol addend x y = accepted t (rela 0 t symbol addend ++ rela 8 t symbol addend) x y

-- what such records push
pub pushed : ℕ → ℕ → ℕ → ℕ → ℕ → Line
pushed t symbol addend x y = accepted t (seen 0 (rela 0 t symbol addend) ++ seen 8 (rela 8 t symbol addend)) x y

-- an entry popped at 0 and at 8
pub popped : ℕ → ℕ → ℕ → ℕ → Line
popped t entry x y = accepted t (push entry ++ plain 0 t ++ push entry ++ plain 8 t) x y

-- an operation on entries, the last the top, and on others
pub operated : ℕ → List ℕ → List ℕ → ℕ → ℕ → Line
operated t one other x y = accepted t (seen 0 (push_all one ++ bare t) ++ seen 8 (push_all other ++ bare t)) x y

-- 24, which is part of seeing
pub duplicated : ℕ → ℕ → ℕ → ℕ → ℕ → Line
duplicated t one other x y = accepted t (seen 0 (push one) ++ seen 8 (push other)) x y

pub asserted : ℕ → ℕ → ℕ → ℕ → Line
asserted t entry x y = accepted t (push entry ++ bare t) x y

pub idle : ℕ → ℕ → ℕ → Line
idle t x y = accepted t (bare t) x y

pub loaders : ℕ → ℕ → ℕ → Line
loaders t x y = record { pins = t; records = bare t; number = 5; place = 0; offset = minus 1; left = words (x ∷ y ∷ []) }

-- ---- from here as `make types` prints it

abbrev pub address : ℕ
address = 0xae9ced66eba95dc4

abbrev pub gp : ℕ
gp = 0xc5994baa8ef476b6

abbrev pub A : ℕ
A = 0xcb79b991ca155339

abbrev pub old : List ℕ
old = 0x97927b2ef35dc563 ∷ 0x686d84d10ca23a9c ∷ []

abbrev pub symbol1 : List ℕ
symbol1 = 0xcae45ea94d4c3245 ∷ 0xb492badb56473da9 ∷ 0x90b5b8c2943b3476 ∷ 0x3d09d0ca63d18b2d ∷ 0x4bb573bc3c92c5db ∷ 0x6e4c422e346d9cde ∷ []

abbrev pub symbol2 : List ℕ
symbol2 = 0x1ca333d4949ecf46 ∷ 0xd453a1bb8b8e69de ∷ 0xa4f4bdeef6d4dd3d ∷ 0x4a9ac6a550a67166 ∷ 0x2e53a1bb89612c3b ∷ 0x7925b0d1a9133259 ∷ []

abbrev pub symbol3 : List ℕ
symbol3 = 0x5fb1d3681be4a4c7 ∷ 0xe83c67d50493114a ∷ 0x19d86ef2ab70c593 ∷ 0xb7042ca98ef61d35 ∷ 0x7af59e8370c4214a ∷ 0x36de481f95abc14a ∷ []

pub types : List Line
types =
    idle 0 0x97927b2ef35dc563 0x686d84d10ca23a9c ∷
    direct 1 1 A 0x97927b2e1761857e 0x686d84d11761857e ∷
    direct 2 1 A 0x965e183b1761857e 0x965e183b1761857e ∷
    loaders 3 0x97927b2ef35dc563 0x686d84d10ca23a9c ∷
    loaders 4 0x97927b2ef35dc563 0x686d84d10ca23a9c ∷
    loaders 5 0x97927b2ef35dc563 0x686d84d10ca23a9c ∷
    loaders 6 0x97927b2ef35dc563 0x686d84d10ca23a9c ∷
    loaders 7 0x97927b2ef35dc563 0x686d84d10ca23a9c ∷
    loaders 8 0x97927b2ef35dc563 0x686d84d10ca23a9c ∷
    loaders 9 0x97927b2ef35dc563 0x686d84d10ca23a9c ∷
    loaders 10 0x97927b2ef35dc563 0x686d84d10ca23a9c ∷
    loaders 11 0x97927b2ef35dc563 0x686d84d10ca23a9c ∷
    loaders 12 0x97927b2ef35dc563 0x686d84d10ca23a9c ∷
    idle 20 0x97927b2ef35dc563 0x686d84d10ca23a9c ∷
    idle 21 0x97927b2ef35dc563 0x686d84d10ca23a9c ∷
    pushed 22 1 A 0xe7c12ad42bb827ba 0xe7c12ad42bb827b2 ∷
    pushed 23 1 A 0x965e183b1761857e 0x965e183b1761857e ∷
    duplicated 24 0xd5c1e7362a984f0b 0x2a73b9f0e64d158c 0xd5c1e7362a984f0b 0x2a73b9f0e64d158c ∷
    pushed 25 1 A 0xb492badb56473da9 0xb492badb56473da9 ∷
    pushed 26 1 A 0x3d09d0ca63d18b2d 0x3d09d0ca63d18b2d ∷
    pushed 27 1 A 0x4bb573bc3c92c5db 0x4bb573bc3c92c5db ∷
    pushed 28 1 A 0x6e4c422e346d9cde 0x6e4c422e346d9cde ∷
    pushed 29 1 A 0xe218cb5ba891d6b2 0xe218cb5ba891d6aa ∷
    asserted 30 0x6d3a29e400000000 0x97927b2ef35dc563 0x686d84d10ca23a9c ∷
    operated 31 (0x6d3a29e400000000 ∷ []) (0 ∷ []) 0x0000000000000000 0x0000000000000001 ∷
    operated 32 (0xd5c1e7362a984f0b ∷ 0x2a73b9f0e64d158c ∷ []) (0x5e19c384f2b6d7a1 ∷ 0x83e4b71d9652cf3a ∷ []) 0xab4e2d45444b397f 0xda350c675c640867 ∷
    operated 33 (0xd5c1e7362a984f0b ∷ 13 ∷ []) (0x2a73b9f0e64d158c ∷ 37 ∷ []) 0x3ce6c55309e16000 0xc9a2b18000000000 ∷
    operated 34 (0xd5c1e7362a984f0b ∷ 13 ∷ []) (0x2a73b9f0e64d158c ∷ 37 ∷ []) 0xfffeae0f39b154c2 0x0000000001539dcf ∷
    operated 35 (0xd5c1e7362a984f0b ∷ 0x2a73b9f0e64d158c ∷ []) (0x5e19c384f2b6d7a1 ∷ 0x83e4b71d9652cf3a ∷ []) 0x0035a12710e56497 0xe1fe7aa28909a6db ∷
    operated 36 (0xd5c1e7362a984f0b ∷ 0x2a73b9f0e64d158c ∷ []) (0x5e19c384f2b6d7a1 ∷ 0x83e4b71d9652cf3a ∷ []) 0x0041a13022080508 0x020083049212c720 ∷
    operated 37 (0x6d3a29e400000000 ∷ 0xd5c1e7362a984f0b ∷ 0x2a73b9f0e64d158c ∷ []) (0 ∷ 0xd5c1e7362a984f0b ∷ 0x2a73b9f0e64d158c ∷ []) 0xd5c1e7362a984f0b 0x2a73b9f0e64d158c ∷
    popped 38 (minus 13) 0x97927b2ef35dcd63 0x686d84d10ca24e9c ∷
    popped 39 2861 0x97927b2ef36cb563 0x686d84d10cacb69c ∷
    popped 40 (minus 1717) 0x97927b2ef3652d63 0x686d84d10ca52e9c ∷
    popped 41 (minus 25306) 0x97927b2ef2749963 0x686d84d10e749a9c ∷
    popped 42 (minus 79408) 0x97927b2ef2c9d163 0x686d84d10ec9d29c ∷
    popped 43 (minus 413075) 0x97927b2ef3364da3 0x686d84d10d364dbc ∷
    popped 44 (minus 2460500) 0x97927b2ef274ad76 0x686d84d10e74ae96 ∷
    popped 45 (minus 110440880) 0x97927b2ef2ce525a 0x686d84d10ece525a ∷
    popped 46 3550843246 0x97927b2ed3a5916e 0x686d84d1d3a5916e ∷
    direct 47 1 A 0x97927b2ef35dc5e1 0x686d84d10ca23a1a ∷
    direct 48 1 A 0x97927b2ef35d4ae1 0x686d84d10ca2c01a ∷
    direct 49 1 A 0x97927b2ef3bf4ae1 0x686d84d10c03c01a ∷
    direct 50 1 A 0x97927b2e0abf4ae1 0x686d84d12403c01a ∷
    direct 51 1 A 0x2df0936a0abf4ae1 0xfecb9d0c2403c01a ∷
    direct 52 1 A 0x97927b2ef35dc5e5 0x686d84d10ca23a1e ∷
    direct 53 1 A 0x97927b2ef35d3fe5 0x686d84d10ca2b51e ∷
    direct 54 1 A 0x97927b2ef3fc3fe5 0x686d84d10c40b51e ∷
    direct 55 1 A 0x97927b2edbfc3fe5 0x686d84d1f540b51e ∷
    direct 56 1 A 0x013462f3dbfc3fe5 0xd20f6c95f540b51e ∷
    idle 57 0x97927b2ef35dc563 0x686d84d10ca23a9c ∷
    idle 58 0x97927b2ef35dc563 0x686d84d10ca23a9c ∷
    direct 64 1 0xe3b88ebd9e5b964b 0x97927b2ef26acd63 0x686d84d10e6ac69c ∷
    direct 65 1 0xe3b88ebd9e2ad82f 0x97927b2ef1acb173 0x686d84d10dacaa93 ∷
    direct 66 1 0xe3b88ebd99a69deb 0x97927b2ef1726ed2 0x686d84d10d7266d2 ∷
    direct 67 1 A 0x97927b2ef22ec303 0x686d84d10c2ec31c ∷
    direct 68 1 A 0x97927b2ef355f963 0x686d84d10c95fa9c ∷
    direct 69 1 A 0x97927b2ef3c30763 0x686d84d10dc3077c ∷
    direct 70 1 A 0x97927b2ef3659563 0x686d84d10ca5969c ∷
    direct 71 3 A 0x97927b2ef3f4a163 0x686d84d10df4a17c ∷
    direct 72 1 A 0x97927b2ef355f963 0x686d84d10c95fa9c ∷
    direct 73 1 A 0x97927b2ef2255aa3 0x686d84d10c255abc ∷
    direct 74 2 A 0x97927b2ef34e6163 0x686d84d10c8e629c ∷
    direct 75 3 A 0x97927b2ef34fbc83 0x686d84d10d4fbc9c ∷
    direct 76 1 A 0x97927b2ef3517d63 0x686d84d10c917e9c ∷
    direct 77 1 A 0x97927b2ef3e323e3 0x686d84d10de323fc ∷
    direct 78 2 A 0x97927b2ef37ad563 0x686d84d10cbad69c ∷
    direct 79 1 A 0x97927b2ef3ca7763 0x686d84d10dca777c ∷
    direct 80 1 A 0x97927b2ef3517d63 0x686d84d10c917e9c ∷
    direct 81 1 A 0x97927b2ef380d0a3 0x686d84d10d80d0bc ∷
    direct 82 1 A 0x97927b2ef35e8963 0x686d84d10c9e8a9c ∷
    direct 83 1 A 0x97927b2ef2c7a303 0x686d84d10cc7a31c ∷
    direct 84 1 A 0x97927b2ef36cb563 0x686d84d10cacb69c ∷
    direct 85 1 A 0x97927b2ef33a1943 0x686d84d10d3a195c ∷
    direct 86 1 A 0x97927b2ef34f4163 0x686d84d10c8f429c ∷
    direct 87 3 A 0x97927b2ef2281ea3 0x686d84d10c281ebc ∷
    direct 88 1 A 0x97927b2ef3724563 0x686d84d10cb2469c ∷
    direct 89 1 A 0x97927b2ef23a4003 0x686d84d10c3a401c ∷
    direct 90 2 A 0x97927b2ef3515563 0x686d84d10c91569c ∷
    direct 91 1 A 0x97927b2ef3970e63 0x686d84d10d970e7c ∷
    direct 92 1 A 0x97927b2ef3724563 0x686d84d10cb2469c ∷
    direct 93 1 A 0x97927b2ef3d7ecc3 0x686d84d10dd7ecdc ∷
    direct 94 1 A 0x97927b2ef3445163 0x686d84d10c84529c ∷
    direct 95 3 A 0x97927b2ef271ede3 0x686d84d10c71edfc ∷
    direct 96 1 A 0x97927b2ef3970e63 0x686d84d10d970e7c ∷
    direct 97 3 A 0x97927b2ef271ede3 0x686d84d10c71edfc ∷
    direct 98 1 A 0x97927b2ef3970e63 0x686d84d10d970e7c ∷
    direct 99 1 A 0x97927b2e2bb827ba 0x686d84d12bb827b2 ∷
    idle 100 0x97927b2ef35dc563 0x686d84d10ca23a9c ∷
    []

-- ---- to here

-- a line as a case, with two symbols that have every value
pub case_of : Line → Case
case_of l =
    record {
      section = words old;
      records = l.records;
      values = words (63 ∷ symbol1) ++ words (63 ∷ symbol2) ++ words (63 ∷ symbol3);
      address = address;
      gp = gp;
      number = l.number;
      place = l.place;
      offset = l.offset;
      left = l.left;
    }

pub types_hold : T (all_hold holds (map case_of types))
unfolding all_hold holds case_of types accepted direct pushed popped operated duplicated asserted idle loaders words plain bare push_all seen same rela push minus number bytes_of cut table look put first of_records of_masks checks patched
types_hold = tt

-- Each type of the table has its line, in its order.
pub type_of : Named → ℕ
type_of (type n does) = n

pub types_complete : T (same (map (λ l. l.pins) types) (map type_of table))
unfolding same types accepted direct pushed popped operated duplicated asserted idle loaders table type_of
types_complete = tt
