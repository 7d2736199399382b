-- How `put` and `get` end, by what their stages have answered.
use Rattle.std.proofs.Common.{◌≡◌, ℕ, ◌≤◌, List, [], length, Ok, refl, sym, subst, inl, inr, arith}
use Rattle.room_base.specs.Faults.{Rose}
use Rattle.room_base.specs.Outside.{ClockView, Told}
use Rattle.room_base.specs.declared.numbers.Cart.{Cart}
use Rattle.room_disk.specs.Disk.{DiskView, Quiet, Others, Settled, Leaves, OnFile}
use Rattle.room_disk.proofs.Runs.{leaves_none, leaves_then, leaves_weaker, on_file_then, others_quiet, others_then}
use Rattle.volume_store.specs.Writes.{cart_file}
use Rattle.room_run.specs.Put.{HasSize, HasOneFileMore, IsPut, IsSite}
use Rattle.room_run.specs.Run.{World, OnlyTakes, Stays, TakesAll, MayAsk, OnCartridge, AreInput, WritesOn, Keeps, PutEnds, GetEnds, DiskStays, DiskRose}
use Rattle.room_run.specs.Stages.{IsOrMemory, JudgesInput, input_status, JudgesSite, SiteAsks, site_status, JudgesFile, file_status}
use Rattle.room_run.specs.declared.get.FileFault.{FileFault}
use Rattle.room_run.specs.declared.get.FileFault.TheVariants as file_faults
use Rattle.room_run.specs.declared.input.InputFault.{InputFault}
use Rattle.room_run.specs.declared.input.InputFault.TheVariants as input_faults
use Rattle.room_run.specs.declared.site.Site.{Site}
use Rattle.room_run.specs.declared.site.Site.TheVariants as sites
use Rattle.room_run.specs.declared.site.SiteFault.{SiteFault}
use Rattle.room_run.specs.declared.site.SiteFault.TheVariants as site_faults
use Rattle.room_run.specs.declared.status.Status.{Status}
use Rattle.room_run.specs.declared.status.Status.TheVariants as status

-- what holds of the status that is meant, and of want of memory, holds of the answer
pub so_of : (P : Status → Type 0) (meant answer : Status) → IsOrMemory meant answer → P meant → P status.Memory → P answer
so_of P meant answer (inl is) then short = subst P (sym is) then
so_of P meant answer (inr is) then short = subst P (sym is) short

-- ---- put

-- the input was taken whole
pub takes_all : (before now : World) (bytes : List ℕ) → HasSize bytes → Told before.input.tells ((bytes ≡ before.input.left) × (now.input.left ≡ []))
    → TakesAll before now
takes_all before now bytes size judged = λ told. (subst HasSize (judged told).0 size, (judged told).1)

-- a count rose behind calls that lower none
pub rose_behind : (before mid now : ℕ) → before ≤ mid → Rose mid now → Rose before now
rose_behind before mid now later rose = omega (arith, later, rose)

short_put : (cart : ℕ) (before now : World) → OnlyTakes before now → PutEnds cart before now status.Memory
short_put cart before now rest = (rest.out, rest.disk, λ told. inl (rest.clock told))

input_meant : (cart : ℕ) (before now : World) (fault : InputFault) → OnlyTakes before now
    → (fault ≡ input_faults.Failed → Rose before.input.faults now.input.faults)
    → Told before.input.tells (JudgesInput before.input.left now.input.left fault) → PutEnds cart before now (input_status fault)
input_meant cart before now input_faults.Memory rest cause judged = short_put cart before now rest
input_meant cart before now input_faults.Failed rest cause judged = (cause refl, rest)
input_meant cart before now input_faults.Empty rest cause judged = (refl, rest, judged)
input_meant cart before now input_faults.TooLong rest cause judged = (refl, rest, judged)

-- the input wasn't taken as a file
pub input_ends : (cart : ℕ) (before now : World) (fault : InputFault) (answer : Status) → OnlyTakes before now
    → (fault ≡ input_faults.Failed → Rose before.input.faults now.input.faults)
    → Told before.input.tells (JudgesInput before.input.left now.input.left fault) → IsOrMemory (input_status fault) answer
    → PutEnds cart before now answer
input_ends cart before now fault answer rest cause judged is =
    so_of (PutEnds cart before now) (input_status fault) answer is (input_meant cart before now fault rest cause judged) (short_put cart before now rest)

site_meant : (cart : ℕ) (before now : World) (bytes : List ℕ) (fault : SiteFault) → OnlyTakes before now → TakesAll before now → AreInput before bytes
    → (fault ≡ site_faults.DiskFailed → DiskRose cart before now)
    → (fault ≡ site_faults.ClockFailed → Rose before.clock.faults now.clock.faults)
    → OnCartridge cart before (λ disk. JudgesSite (length bytes) disk fault) → WritesOn cart before now
    → PutEnds cart before now (site_status cart fault)
site_meant cart before now bytes site_faults.DiskFailed rest taken are disk clock judged writes = (disk refl, writes, rest.out)
site_meant cart before now bytes site_faults.ClockFailed rest taken are disk clock judged writes = (clock refl, rest, taken, judged)
site_meant cart before now bytes site_faults.BadLabel rest taken are disk clock judged writes = (rest, taken, λ told. inl (refl, refl, judged told))
site_meant cart before now bytes (site_faults.Damaged volid block) rest taken are disk clock judged writes = (rest, taken, judged)
site_meant cart before now bytes site_faults.Occupied rest taken are disk clock judged writes = ((refl, refl), rest, taken, judged)
site_meant cart before now bytes site_faults.Full rest taken are disk clock judged writes =
    (refl, rest, taken, λ told. (bytes, are, judged told))

-- where nothing was written the cartridge is untouched
pub untouched : (cart : ℕ) (before now : World) (bytes : List ℕ) → TakesAll before now → MayAsk cart before now → AreInput before bytes → DiskStays before now
    → WritesOn cart before now
untouched cart before now bytes taken asked are stays = record {
  taken = taken;
  asked = asked;
  others = λ told. others_quiet (cart_file cart) before.disk now.disk (stays told);
  moments = λ told. (
    bytes,
    are,
    leaves_none before.disk now.disk
        (OnFile (cart_file cart) (IsPut before.clock cart bytes (before.disk.reads (cart_file cart))) before.disk) (stays told),
  );
}

-- no site was found
pub site_ends : (cart : ℕ) (before now : World) (bytes : List ℕ) (fault : SiteFault) (answer : Status) → OnlyTakes before now → TakesAll before now → AreInput before bytes
    → (fault ≡ site_faults.DiskFailed → DiskRose cart before now)
    → (fault ≡ site_faults.ClockFailed → Rose before.clock.faults now.clock.faults)
    → OnCartridge cart before (λ disk. JudgesSite (length bytes) disk fault) → IsOrMemory (site_status cart fault) answer
    → PutEnds cart before now answer
site_ends cart before now bytes fault answer rest taken are disk clock judged is =
    so_of (PutEnds cart before now) (site_status cart fault) answer is
    (site_meant cart before now bytes fault rest taken are disk clock judged
    (untouched cart before now bytes taken (λ told. inl (rest.clock told)) are rest.disk))
    (short_put cart before now rest)

-- what finding a site made of the clock
pub may_ask : (cart : ℕ) (before now : World) (site : Site) → TakesAll before now
    → Told before.clock.tells (SiteAsks before.clock.moments now.clock.moments (Ok site))
    → OnCartridge cart before (λ disk. IsSite before.clock cart disk site) → MayAsk cart before now
may_ask cart before now (sites.New label) taken asked at = λ told. inr (record {
  once = asked told;
  judged = λ known. (taken known).0;
  free = λ known. (at known).0;
})
may_ask cart before now (sites.Next volume number) taken asked at = λ told. inl (asked told)

-- storing a file behind calls that add no image
pub writes_behind : (cart : ℕ) (before now : World) (mid : DiskView) (bytes : List ℕ) (site : Site) → TakesAll before now → MayAsk cart before now → AreInput before bytes
    → Told before.disk.tells (Quiet before.disk mid) → Told before.disk.tells (Settled mid (cart_file cart))
    → OnCartridge cart before (λ disk. IsSite before.clock cart disk site) → mid.tells ≡ before.disk.tells → Told mid.tells (Others (cart_file cart) mid now.disk)
    → Told mid.tells ((clock : ClockView) → IsSite clock cart (mid.reads (cart_file cart)) site → Settled mid (cart_file cart)
    → Leaves mid now.disk (OnFile (cart_file cart) (IsPut clock cart bytes (mid.reads (cart_file cart))) mid))
    → WritesOn cart before now
writes_behind cart before now mid bytes site taken asked are quiet settled at same others run =
    let file = cart_file cart in
    let At : List ℕ → Type 0 = λ (disk : List ℕ). IsSite before.clock cart disk site in
    let P : List ℕ → Type 0 = IsPut before.clock cart bytes (mid.reads file) in
    let Q : List ℕ → Type 0 = IsPut before.clock cart bytes (before.disk.reads file) in
    record {
      taken = taken;
      asked = asked;
      others = λ told. others_then file before.disk mid now.disk (others_quiet file before.disk mid (quiet told)) (others (rw same told));
      moments = λ told. (
        bytes,
        are,
        leaves_then before.disk mid now.disk (OnFile file Q before.disk) (leaves_none before.disk mid (OnFile file Q before.disk) (quiet told))
            (leaves_weaker mid now.disk (OnFile file P mid) (OnFile file Q before.disk)
            (run (rw same told) before.clock (subst At (sym ((quiet told).reads file)) (at told)) (settled told))
            (on_file_then file P Q before.disk mid (others_quiet file before.disk mid (quiet told))
            (λ disk put. let Before : List ℕ → Type 0 = λ (old : List ℕ). IsPut before.clock cart bytes old disk in subst Before ((quiet told).reads file) put))),
      );
    }

-- the file that was stored behind calls that add no image
pub keeps_behind : (cart number : ℕ) (before now : World) (mid : DiskView) (bytes : List ℕ) (site : Site) → AreInput before bytes
    → Told before.disk.tells (Quiet before.disk mid) → OnCartridge cart before (λ disk. IsSite before.clock cart disk site) → mid.tells ≡ before.disk.tells
    → Told mid.tells ((clock : ClockView) → IsSite clock cart (mid.reads (cart_file cart)) site
    → HasOneFileMore clock cart bytes (mid.reads (cart_file cart)) number (now.disk.reads (cart_file cart)))
    → Told mid.tells (Settled now.disk (cart_file cart)) → Keeps cart before now bytes number
keeps_behind cart number before now mid bytes site are quiet at same stored settled =
    let file = cart_file cart in
    let At : List ℕ → Type 0 = λ (disk : List ℕ). IsSite before.clock cart disk site in
    record {
      input = are;
      stands = λ told. (let Before : List ℕ → Type 0 = λ (old : List ℕ). HasOneFileMore before.clock cart bytes old number (now.disk.reads file) in
          subst Before ((quiet told).reads file) (stored (rw same told) before.clock (subst At (sym ((quiet told).reads file)) (at told))));
      settled = λ told. settled (rw same told);
    }

-- ---- get

file_meant : (cart : Cart) (number : ℕ) (before now : World) (fault : FileFault) → Stays before now
    → (fault ≡ file_faults.Failed → DiskRose cart.0 before now)
    → OnCartridge cart.0 before (λ disk. JudgesFile number disk fault) → GetEnds cart.0 number before now (file_status cart number fault)
file_meant cart number before now file_faults.Memory stays cause judged = stays
file_meant cart number before now file_faults.Failed stays cause judged = (cause refl, stays)
file_meant cart number before now file_faults.Unlabelled stays cause judged = (refl, stays, judged)
file_meant cart number before now file_faults.BadLabel stays cause judged = (stays, λ told. inl (inl (refl, refl, judged told)))
file_meant cart number before now (file_faults.Damaged volid block) stays cause judged = (stays, judged)
file_meant cart number before now (file_faults.Strange volid) stays cause judged = (stays, judged)
file_meant cart number before now file_faults.NoFile stays cause judged = ((refl, refl), stays, judged)

-- the file wasn't read
pub file_ends : (cart : Cart) (number : ℕ) (before now : World) (fault : FileFault) (answer : Status) → Stays before now
    → (fault ≡ file_faults.Failed → DiskRose cart.0 before now)
    → OnCartridge cart.0 before (λ disk. JudgesFile number disk fault) → IsOrMemory (file_status cart number fault) answer
    → GetEnds cart.0 number before now answer
file_ends cart number before now fault answer stays cause judged is =
    so_of (GetEnds cart.0 number before now) (file_status cart number fault) answer is (file_meant cart number before now fault stays cause judged) stays
