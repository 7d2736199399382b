mod Quieting
mod Amendable
mod Purgeable
mod PurgePlan
