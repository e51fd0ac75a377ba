-- Whole files for worked examples, as hexadecimal texts, and what they are taken for. The epoch of the site is
-- 2020-01-01T00:00:00Z.
use Rattle.std.specs.Prelude.{ℕ, ◌+◌, ◌-◌, ◌*◌, List, [], ◌∷◌, ◌++◌, codes, drop, false, filter, length, not, nat_lt, pos, replicate, take, true, ◌==◌, if◌then◌else◌}
use Rattle.nc_model.specs.declared.kind.Kind.TheVariants.{Byte, Char, Short, Int, Float}
use Rattle.fm_model.specs.declared.loaded.Loaded.{Loaded}
use Rattle.fm_model.specs.declared.proto.Proto.{Proto}
use Rattle.fm_model.specs.declared.proto.ProtoVar.{ProtoVar}
use Rattle.fm_model.specs.Example.{site, text_attr}

-- the value of a hexadecimal digit
abbrev pub digit_of : ℕ → ℕ
digit_of code = if nat_lt code 97 then code - 48 else code - 87

-- two digits are a byte
abbrev pub bytes_of : List ℕ → List ℕ
bytes_of [] = []
bytes_of (high ∷ []) = []
bytes_of (high ∷ low ∷ more) = (16 * digit_of high + digit_of low) ∷ bytes_of more

-- the bytes that a hexadecimal text shows, in which spaces count for nothing
abbrev pub hex : List ℕ → List ℕ
hex text = bytes_of (filter (λ code. not (code == 32)) text)

-- a file with other bytes from an offset on
abbrev pub patched : ℕ → List ℕ → List ℕ → List ℕ
patched at bytes file = take at file ++ bytes ++ drop (at + length bytes) file

-- 352 bytes of three records: the instants 0, 6 and 12 hours after 2024-01-01T00:00:00Z, with a field over two
-- latitudes and two longitudes
abbrev pub file_a : List ℕ
file_a = hex (
    codes "43444601 00000003" ++
    codes "0000000a 00000003" ++
    codes "00000004 74696d65 00000000" ++
    codes "00000003 6c617400 00000002" ++
    codes "00000003 6c6f6e00 00000002" ++
    codes "00000000 00000000" ++
    codes "0000000b 00000004" ++
    codes "00000004 74696d65 00000001 00000000" ++
    codes "0000000c 00000001 00000005 756e6974 73000000 00000002 00000021 7365636f" ++
    codes "6e647320 73696e63 65203139 37302d30 312d3031 2030303a 30303a30 30000000" ++
    codes "00000004 00000004 00000124" ++
    codes "00000003 6c617400 00000001 00000001" ++
    codes "00000000 00000000" ++
    codes "00000005 00000008 00000114" ++
    codes "00000003 6c6f6e00 00000001 00000002" ++
    codes "00000000 00000000" ++
    codes "00000005 00000008 0000011c" ++
    codes "00000001 74000000 00000003 00000000 00000001 00000002" ++
    codes "00000000 00000000" ++
    codes "00000005 00000010 00000128" ++
    codes "41200000 41a00000" ++
    codes "41f00000 42200000" ++
    codes "65920080" ++
    codes "3f800000 40000000 40400000 40800000" ++
    codes "659254e0" ++
    codes "40a00000 40c00000 40e00000 41000000" ++
    codes "6592a940" ++
    codes "41100000 41200000 41300000 41400000")

-- the prototype that they are
abbrev pub proto_a : Proto
proto_a = record {
  site = site;
  axis = codes "time";
  dims = record { name = codes "time"; size = 3 } ∷ record { name = codes "lat"; size = 2 }
      ∷ record { name = codes "lon"; size = 2 } ∷ [];
  attrs = [];
  vars = record {
    name = codes "time";
    kind = Int;
    dims = 0 ∷ [];
    attrs = text_attr (codes "units") (codes "seconds since 1970-01-01 00:00:00") ∷ [];
    timed = true;
    fixed = [];
  } ∷ record {
    name = codes "lat";
    kind = Float;
    dims = 1 ∷ [];
    attrs = [];
    timed = false;
    fixed = hex
        (codes "41200000 41a00000");
  }
      ∷ record {
        name = codes "lon";
        kind = Float;
        dims = 2 ∷ [];
        attrs = [];
        timed = false;
        fixed = hex
            (codes "41f00000 42200000");
      }
      ∷ record { name = codes "t"; kind = Float; dims = 0 ∷ 1 ∷ 2 ∷ []; attrs = []; timed = true; fixed = [] }
      ∷ [];
}

-- what they are taken for over it under the name of the run of 2024-01-01T00:00:00Z
abbrev pub loaded_a : Loaded
loaded_a = record {
  name = codes "gfs_20240101_0000.nc";
  run = pos 126230400;
  times = pos 126230400 ∷ pos 126252000 ∷ pos 126273600 ∷ [];
  content = file_a;
  slots = record { begin = 296; step = 20 } ∷ [];
}

-- 570 bytes: two times, 6 and 12 hours after 2024-01-01T00:00:00Z, over a dimension that is not the record dimension;
-- a character for each time; names of two stations, one a record; the run as a number of days, with units of its own;
-- and a field over two latitudes
abbrev pub file_c : List ℕ
file_c = hex (
    codes "43444601 00000002" ++
    codes "0000000a 00000004" ++
    codes "00000004 74696d65 00000002" ++
    codes "00000007 73746174 696f6e00 00000000" ++
    codes "00000003 6c617400 00000002" ++
    codes "00000003 6c656e00 00000003" ++
    codes "0000000c 00000001 00000005 7469746c 65000000 00000002 00000004 47465300" ++
    codes "0000000b 00000006" ++
    codes "00000004 74696d65 00000001 00000000" ++
    codes "0000000c 00000001 00000005 756e6974 73000000 00000002 00000014 686f7572" ++
    codes "73207369 6e636520 32303234 2d312d31" ++
    codes "00000004 00000008 00000214" ++
    codes "00000003 6c617400 00000001 00000002" ++
    codes "0000000c 00000001 00000005 756e6974 73000000 00000002 0000000d 64656772" ++
    codes "6565735f 6e6f7274 68000000" ++
    codes "00000005 00000008 0000021c" ++
    codes "00000004 666c6167 00000001 00000000" ++
    codes "00000000 00000000" ++
    codes "00000002 00000004 00000224" ++
    codes "00000004 6e616d65 00000002 00000001 00000003" ++
    codes "00000000 00000000" ++
    codes "00000002 00000004 00000234" ++
    codes "00000003 72756e00 00000000" ++
    codes "0000000c 00000002 0000000d 7374616e 64617264 5f6e616d 65000000 00000002" ++
    codes "00000017 666f7265 63617374 5f726566 6572656e 63655f74 696d6500 00000005" ++
    codes "756e6974 73000000 00000002 00000015 64617973 2073696e 63652032 3032332d" ++
    codes "31322d33 31000000" ++
    codes "00000004 00000004 00000228" ++
    codes "00000008 68756d69 64697479 00000002 00000000 00000002" ++
    codes "0000000c 00000001 0000000b 76616c69 645f7261 6e676500 00000003 00000002" ++
    codes "00000064" ++
    codes "00000003 00000008 0000022c" ++
    codes "00000006 0000000c" ++
    codes "41200000 41a00000" ++
    codes "61620000" ++
    codes "00000001" ++
    codes "0032003c 00460050" ++
    codes "4f534c52 4f4d")

-- the prototype that they are: attributes stay as they stand, and the characters of the times and the run are left out
abbrev pub proto_c : Proto
proto_c = record {
  site = site;
  axis = codes "time";
  dims = record { name = codes "time"; size = 2 } ∷ record { name = codes "station"; size = 2 }
      ∷ record { name = codes "lat"; size = 2 }
      ∷ record { name = codes "len"; size = 3 } ∷ [];
  attrs = text_attr (codes "title") (codes "GFS" ++ 0 ∷ []) ∷ [];
  vars = record {
    name = codes "time";
    kind = Int;
    dims = 0 ∷ [];
    attrs = text_attr (codes "units") (codes "hours since 2024-1-1") ∷ [];
    timed = true;
    fixed = [];
  } ∷ record {
    name = codes "lat";
    kind = Float;
    dims = 2 ∷ [];
    attrs = text_attr (codes "units") (codes "degrees_north") ∷ [];
    timed = false;
    fixed = hex (codes "41200000 41a00000");
  } ∷ record { name = codes "name"; kind = Char; dims = 1 ∷ 3 ∷ []; attrs = []; timed = false; fixed = codes "OSLROM" }
      ∷ record {
        name = codes "humidity";
        kind = Short;
        dims = 0 ∷ 2 ∷ [];
        attrs = record { name = codes "valid_range"; kind = Short; values = 0 ∷ 0 ∷ 0 ∷ 100 ∷ [] } ∷ [];
        timed = true;
        fixed = [];
      } ∷ [];
}

-- what they are taken for over it: the run is 1 day after 2023-12-31T00:00:00Z
abbrev pub loaded_c : Loaded
loaded_c = record {
  name = codes "any.nc";
  run = pos 126230400;
  times = pos 126252000 ∷ pos 126273600 ∷ [];
  content = file_c;
  slots = record { begin = 556; step = 4 } ∷ [];
}

-- the header of 4,097 times of a byte each
abbrev pub head_of_many : List ℕ
head_of_many = hex (
    codes "43444601 00000000" ++
    codes "0000000a 00000001" ++
    codes "00000004 74696d65 00001001" ++
    codes "00000000 00000000" ++
    codes "0000000b 00000001" ++
    codes "00000004 74696d65 00000001 00000000" ++
    codes "0000000c 00000001 00000005 756e6974 73000000 00000002 00000010 73207369" ++
    codes "6e636520 32303230 2d312d31" ++
    codes "00000001 00001001 00000074")

-- a file of as many equal times
abbrev pub many_times : List ℕ
many_times = head_of_many ++ replicate 4097 0

-- a prototype with that axis alone
abbrev pub proto_of_axis : Proto
proto_of_axis = record proto_a {
  vars = record { name = codes "time"; kind = Byte; dims = 0 ∷ []; attrs = []; timed = true; fixed = [] } ∷ [];
}
