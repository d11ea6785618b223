mod Exchanging
mod Holding
